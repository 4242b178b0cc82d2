-- What the rules of the worklist are about.
use Rattle.std.specs.Prelude.{Bool, List}

pub record Setting : Type 1 where
  -- identities of operations, with a test for equality
  pub Op : Type 0
  pub same : Op → Op → Bool
  -- a store together with the conversion's value; runs begin at good ones
  pub Env : Type 0
  pub Good : Env → Type 0
  pub live : Env → Op → Bool
  pub convertible : Env → Op → Bool
  -- for each operand in order that an operation defines which does not lie directly in a graph region, that operation
  pub definers : Env → Op → List Op
  -- A rewrite of an operation leads to another environment, and leaves records of inserted operations, in order.
  pub Rewrite : Env → Op → Env → List Op → Type 0
  -- A type question leads to another environment.
  pub Retype : Env → Env → Type 0
