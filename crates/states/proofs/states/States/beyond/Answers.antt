use Rattle.std.proofs.Common.{◌≡◌, Some, None, sym, ap, ◌∙◌, rules}
use Rattle.std.specs.List.{slice_get}
use Rattle.row.specs.Items.{row_items}
use Rattle.store.specs.Meaning.{meaning as model}
use Rattle.law.specs.Machine.{dues, first_due}
use Rattle.rules_next.specs.Setting.{real}
use Rattle.rules.specs.Driver.{marks_of}
use Rattle.states.specs.States.{states_in}
use Rattle.states.specs.Due.{at, plain}
use Rattle.states.proofs.DueLaws.{link_again, link_none, link_end, first_some, first_none}
use Rattle.states.proofs.states.States.beyond.Goals as goal

pub returns-in_err-link : goal.returns-in_err-link
returns-in_err-link g c =
    let e = at (model c.args.asked.now.store.now) c.args.asked.now.conversion.now in
    let ks = marks_of (states_in c.args.self.now) in
    let S = real g.C.DialectConversion.meaning in
    let none : c.from_residual.result ≡ None = search rules in
    let empty : None ≡ slice_get (row_items c.due_definers.result) 0 = search rules in
    none ∙ sym (ap plain (link_none (first_due S e ks) 512 c.loop.counter c.loop.link _ c.loop-test.true (first_none (row_items c.due_definers.result) (dues S e ks c.loop.link) empty c.due_definers.ensures) c.loop.invariant))

pub loop-preserved : goal.loop-preserved
loop-preserved g c =
    let e = at (model c.args.asked.now.store.now) c.args.asked.now.conversion.now in
    let ks = marks_of (states_in c.args.self.now) in
    let S = real g.C.DialectConversion.meaning in
    let first : Some c.in_ok-link.link ≡ slice_get (row_items c.due_definers.result) 0 = search rules in
    link_again (first_due S e ks) 512 c.loop.counter c.loop.link c.in_ok-link.link _ c.loop-test.true (first_some (row_items c.due_definers.result) (dues S e ks c.loop.link) c.in_ok-link.link first c.due_definers.ensures) c.loop.invariant

pub returns : goal.returns
returns g c =
    let e = at (model c.args.asked.now.store.now) c.args.asked.now.conversion.now in
    let ks = marks_of (states_in c.args.self.now) in
    let S = real g.C.DialectConversion.meaning in
    sym (ap plain (link_end (first_due S e ks) 512 c.loop.counter c.loop.link _ c.loop-test.false c.loop.invariant))
