-- The numbers of the driver's faults, and where each comes from.
use Rattle.std.specs.Prelude.{ℕ}
use Rattle.rules_next.specs.declared.interface.Fault.{Fault}
use Rattle.rules_next.specs.declared.interface.Fault.TheVariants as fault
use Rattle.rules.specs.declared.interface.Layer.{Layer}
use Rattle.rules.specs.declared.interface.Layer.TheVariants as layer

abbrev pub number_of : Fault → ℕ
number_of fault.NotLive = 3
number_of fault.NotOpen = 12
number_of fault.Unfinished = 13
number_of fault.Circle = 14
number_of fault.Full = 15
number_of fault.HistoryFull = 16
number_of (fault.Conversion f) = 17

abbrev pub layer_of : Fault → Layer
layer_of fault.NotLive = layer.Driver
layer_of fault.NotOpen = layer.Driver
layer_of fault.Unfinished = layer.Driver
layer_of fault.Circle = layer.Driver
layer_of fault.Full = layer.Driver
layer_of fault.HistoryFull = layer.Driver
layer_of (fault.Conversion f) = layer.Conversion
