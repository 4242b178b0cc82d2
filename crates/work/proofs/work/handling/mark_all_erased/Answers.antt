use Rattle.std.proofs.Common.{◌+◌, drop, sym, ap, ◌∙◌}
use Rattle.std.proofs.lemmas.List.{drop_more, drop_all}
use Rattle.store.specs.Meaning.{meaning as model}
use Rattle.rules_next.specs.Driver.{mark_all_erased}
use Rattle.states.specs.States.{states_in}
use Rattle.work.proofs.Handles.{zero_event}
use Rattle.work.proofs.work.handling.mark_all_erased.Goals as goal

pub loop-event-preserved : goal.loop-event-preserved
loop-event-preserved c =
    let m = model c.args.store.now in
    let es = c.args.events.now in
    let i = c.loop-event.event-index in
    ap (λ ks. mark_all_erased m ks (drop (i + 1) es)) c.mark_erased.ensures
    ∙ ap (mark_all_erased m (states_in c.loop-event.states)) (sym (drop_more es i zero_event c.loop-event-test.true))
    ∙ c.loop-event.invariant

pub returns : goal.returns
returns c =
    let m = model c.args.store.now in
    sym (ap (mark_all_erased m (states_in c.loop-event.states)) (drop_all c.loop-event.event-index c.args.events.now c.loop-event-test.false)) ∙ c.loop-event.invariant
