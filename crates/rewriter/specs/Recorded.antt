-- What a recorder has kept.
use Rattle.std.specs.Prelude.{List}
use Rattle.bounded.specs.Items.{bounded_items}
use Rattle.calls.specs.declared.events.RecorderEvent.{RecorderEvent}
use Rattle.rewriter.specs.declared.listener.Recorder.{Recorder}

abbrev pub recorded : Recorder → List RecorderEvent
recorded r = bounded_items r.events
