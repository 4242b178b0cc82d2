use Rattle.std.proofs.Common.{◌+◌, length, get_or, drop, Err, sym, refl, ap, ◌∙◌, subst, arith}
use Rattle.std.proofs.lemmas.List.{drop_more, drop_all}
use Rattle.rules_next.specs.Driver.{meet_nodes}
use Rattle.work.specs.Setting.{env_of}
use Rattle.work.specs.Work.{Met}
use Rattle.std.proofs.lemmas.Result.{err_from_is_err_and}
use Rattle.std.specs.List.{flat_map}
use Rattle.rules.specs.Setting.{inserted_by, inserted}
use Rattle.work.proofs.Handles.{zero_event}
use Rattle.work.proofs.Turning.{joined, Turning, starts, again, fails, ends}
use Rattle.work.proofs.work.lent.Lent.meet_inserted.Goals as goal

pub loop-event-init : goal.loop-event-init
loop-event-init g c =
    let M = g.C.DialectConversion.meaning in
    let e = env_of c.args.setting.now in
    let es = c.args.events.now in
    let ns = inserted es in (
      record { work = refl; entries = refl; blocks = refl; queued = refl },
      starts {M = M} (λ room s. meet_nodes M e room c.args.setting.now.hand s ns) e c.args.setting.now.hand c.args.self.now.work.now c.args.self.now.entries.now c.args.self.now.blocks.now c.args.self.now.queued.now ns c.args.self.now.fits (λ room l. refl),
    )

pub meet_event-requires : goal.meet_event-requires
meet_event-requires g c = omega (arith, c.loop-event.invariant.1.few, c.loop-event-test.true, c.requires)

pub returns-in_err-meet_event : goal.returns-in_err-meet_event
returns-in_err-meet_event g c =
    let M = g.C.DialectConversion.meaning in
    let e = env_of c.args.setting.now in
    let es = c.args.events.now in
    let ns = inserted es in
    let i = c.loop-event.event-index in
    let p = err_from_is_err_and c.from_residual.result c.from_residual.ensures.1 in
    let t = subst (Turning {M = M} (λ room s. meet_nodes M e room c.args.setting.now.hand s ns) e c.args.setting.now.hand c.args.self.now.work.now c.args.self.now.entries.now c.args.self.now.blocks.now c.args.self.now.queued.now c.loop-event.self.work.now c.loop-event.self.entries.now c.loop-event.self.blocks.now c.loop-event.self.queued.now i) (ap (flat_map (inserted_by es)) (drop_more es i zero_event c.loop-event-test.true)) c.loop-event.invariant.1 in
    let m = subst (λ r. Met {M = M} (λ room l. meet_nodes M e room c.args.setting.now.hand l (inserted_by es (get_or es i zero_event))) 1 c.loop-event.self.work.now c.loop-event.self.entries.now c.loop-event.self.blocks.now c.loop-event.self.queued.now c.meet_event.new.self.work.now c.meet_event.new.self.entries.now c.meet_event.new.self.blocks.now c.meet_event.new.self.queued.now r) c.in_err-meet_event.was c.meet_event.ensures.met in
    record {
      same = joined c.loop-event.invariant.0 c.meet_event.ensures.same;
      met = subst (Met {M = M} (λ room s. meet_nodes M e room c.args.setting.now.hand s ns) (length es) c.args.self.now.work.now c.args.self.now.entries.now c.args.self.now.blocks.now c.args.self.now.queued.now c.meet_event.new.self.work.now c.meet_event.new.self.entries.now c.meet_event.new.self.blocks.now c.meet_event.new.self.queued.now)
          (sym (p.1 ∙ ap Err p.2))
          (fails {M = M} (λ room s. meet_nodes M e room c.args.setting.now.hand s ns) e c.args.setting.now.hand c.args.self.now.work.now c.args.self.now.entries.now c.args.self.now.blocks.now c.args.self.now.queued.now c.loop-event.self.work.now c.meet_event.new.self.work.now c.loop-event.self.entries.now c.meet_event.new.self.entries.now c.loop-event.self.blocks.now c.meet_event.new.self.blocks.now c.loop-event.self.queued.now c.meet_event.new.self.queued.now i (length es) (inserted_by es (get_or es i zero_event)) (flat_map (inserted_by es) (drop (i + 1) es)) _ t m (omega (arith, c.loop-event-test.true)));
    }

pub loop-event-preserved : goal.loop-event-preserved
loop-event-preserved g c =
    let M = g.C.DialectConversion.meaning in
    let e = env_of c.args.setting.now in
    let es = c.args.events.now in
    let ns = inserted es in
    let i = c.loop-event.event-index in
    let t = subst (Turning {M = M} (λ room s. meet_nodes M e room c.args.setting.now.hand s ns) e c.args.setting.now.hand c.args.self.now.work.now c.args.self.now.entries.now c.args.self.now.blocks.now c.args.self.now.queued.now c.loop-event.self.work.now c.loop-event.self.entries.now c.loop-event.self.blocks.now c.loop-event.self.queued.now i) (ap (flat_map (inserted_by es)) (drop_more es i zero_event c.loop-event-test.true)) c.loop-event.invariant.1 in
    let m = subst (λ r. Met {M = M} (λ room l. meet_nodes M e room c.args.setting.now.hand l (inserted_by es (get_or es i zero_event))) 1 c.loop-event.self.work.now c.loop-event.self.entries.now c.loop-event.self.blocks.now c.loop-event.self.queued.now c.meet_event.new.self.work.now c.meet_event.new.self.entries.now c.meet_event.new.self.blocks.now c.meet_event.new.self.queued.now r) c.in_ok-meet_event.was c.meet_event.ensures.met in
    (joined c.loop-event.invariant.0 c.meet_event.ensures.same, again {M = M} (λ room s. meet_nodes M e room c.args.setting.now.hand s ns) e c.args.setting.now.hand c.args.self.now.work.now c.args.self.now.entries.now c.args.self.now.blocks.now c.args.self.now.queued.now c.loop-event.self.work.now c.meet_event.new.self.work.now c.loop-event.self.entries.now c.meet_event.new.self.entries.now c.loop-event.self.blocks.now c.meet_event.new.self.blocks.now c.loop-event.self.queued.now c.meet_event.new.self.queued.now i (inserted_by es (get_or es i zero_event)) (flat_map (inserted_by es) (drop (i + 1) es)) t m)

pub returns : goal.returns
returns g c =
    let M = g.C.DialectConversion.meaning in
    let e = env_of c.args.setting.now in
    let es = c.args.events.now in
    let ns = inserted es in
    record {
      same = c.loop-event.invariant.0;
      met = ends {M = M} (λ room s. meet_nodes M e room c.args.setting.now.hand s ns) e c.args.setting.now.hand c.args.self.now.work.now c.args.self.now.entries.now c.args.self.now.blocks.now c.args.self.now.queued.now c.loop-event.self.work.now c.loop-event.self.entries.now c.loop-event.self.blocks.now c.loop-event.self.queued.now c.loop-event.event-index (length es) (flat_map (inserted_by es) (drop c.loop-event.event-index es))
          c.loop-event.invariant.1 (ap (flat_map (inserted_by es)) (drop_all c.loop-event.event-index es c.loop-event-test.false)) (omega (arith, c.loop-event.auto));
    }
