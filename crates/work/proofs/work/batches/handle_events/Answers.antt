use Rattle.std.proofs.Common.{Err, sym, refl, ap, ◌∙◌, subst, arith}
use Rattle.std.proofs.lemmas.Result.{err_from_is_err_and}
use Rattle.queue.specs.Contents.{contents}
use Rattle.histories.specs.Many.{kept}
use Rattle.rules.specs.Setting.{inserted}
use Rattle.rules_next.specs.Driver.{meet_nodes}
use Rattle.work.specs.Setting.{env_of}
use Rattle.work.specs.declared.work.Work.{Work}
use Rattle.work.specs.Work.{pending_in, memory_of, room_of, load_of, Leaves}
use Rattle.work.specs.Batches.{HandledBy}
use Rattle.work.proofs.Handles.{batch_full, batch_stops, batch_ends}
use Rattle.work.proofs.work.batches.handle_events.Goals as goal

pub returns-in_err-record_all : goal.returns-in_err-record_all
returns-in_err-record_all g c =
    let M = g.C.DialectConversion.meaning in
    let e = env_of c.args.setting.now in
    let k = c.args.lent.now.work.now in
    let k₁ : Work = record { states = c.mark_all_erased.new.states; worklist = k.worklist; pending = k.pending; next_argument = k.next_argument } in
    let xs = c.args.lent.now.entries.now in
    let ys = c.args.lent.now.blocks.now in
    let hs = kept c.args.histories.now in
    let hs₁ = kept c.record_all.new.histories in
    let p = err_from_is_err_and c.from_residual.result c.from_residual.ensures.1 in
    record {
      same = record { work = refl; entries = refl; blocks = refl; queued = refl };
      handled = subst (HandledBy M e c.args.setting.now.hand c.args.events.now k xs ys hs c.args.lent.now.queued.now k₁ xs ys hs₁ c.args.lent.now.queued.now)
          (sym (p.1 ∙ ap Err (p.2 ∙ c.in_err-record_all.ensures.fault)))
          (record {
            fits = record { worklist = c.args.lent.now.fits.worklist; pending = c.args.lent.now.fits.pending };
            entries = refl;
            blocks = refl;
            few = omega arith;
            leaves = batch_full M e c.args.setting.now.hand c.args.events.now k k₁ xs ys hs hs₁ c.args.lent.now.queued.now
                (λ i. record { worklist = contents k.worklist xs; pending = pending_in k ys; states = c.mark_all_erased.ensures i; histories = c.record_all.ensures.after i })
                (sym c.in_err-record_all.ensures.all);
          });
    }

pub returns-in_err-meet_inserted : goal.returns-in_err-meet_inserted
returns-in_err-meet_inserted g c =
    let M = g.C.DialectConversion.meaning in
    let e = env_of c.args.setting.now in
    let k = c.args.lent.now.work.now in
    let k₁ : Work = record { states = c.mark_all_erased.new.states; worklist = k.worklist; pending = k.pending; next_argument = k.next_argument } in
    let xs = c.args.lent.now.entries.now in
    let ys = c.args.lent.now.blocks.now in
    let hs = kept c.args.histories.now in
    let hs₁ = kept c.record_all.new.histories in
    let p = err_from_is_err_and c.from_residual-in_err-meet_inserted.result c.from_residual-in_err-meet_inserted.ensures.1 in
    let l = subst (Leaves (λ ms. meet_nodes M e (room_of xs ys) c.args.setting.now.hand (load_of M (memory_of k₁ xs ys hs₁) c.args.lent.now.queued.now ms) (inserted c.args.events.now)) (memory_of c.meet_inserted.new.self.work.now c.meet_inserted.new.self.entries.now c.meet_inserted.new.self.blocks.now hs₁) c.meet_inserted.new.self.queued.now) c.in_err-meet_inserted.was (c.meet_inserted.ensures.met.leaves hs₁) in
    record {
      same = record { work = c.meet_inserted.ensures.same.work; entries = c.meet_inserted.ensures.same.entries; blocks = c.meet_inserted.ensures.same.blocks; queued = c.meet_inserted.ensures.same.queued };
      handled = subst (HandledBy M e c.args.setting.now.hand c.args.events.now k xs ys hs c.args.lent.now.queued.now c.meet_inserted.new.self.work.now c.meet_inserted.new.self.entries.now c.meet_inserted.new.self.blocks.now hs₁ c.meet_inserted.new.self.queued.now)
          (sym (p.1 ∙ ap Err p.2))
          (record {
            fits = c.meet_inserted.ensures.met.fits;
            entries = c.meet_inserted.ensures.met.entries;
            blocks = c.meet_inserted.ensures.met.blocks;
            few = c.meet_inserted.ensures.met.few;
            leaves = batch_stops M e c.args.setting.now.hand c.args.events.now k k₁ xs ys hs hs₁ c.args.lent.now.queued.now
                (λ i. record { worklist = contents k.worklist xs; pending = pending_in k ys; states = c.mark_all_erased.ensures i; histories = c.record_all.ensures.after i })
                (sym c.in_ok-record_all.ensures.all) c.meet_inserted.new.self.work.now c.meet_inserted.new.self.entries.now c.meet_inserted.new.self.blocks.now c.meet_inserted.new.self.queued.now _ l;
          });
    }

pub returns : goal.returns
returns g c =
    let M = g.C.DialectConversion.meaning in
    let e = env_of c.args.setting.now in
    let k = c.args.lent.now.work.now in
    let k₁ : Work = record { states = c.mark_all_erased.new.states; worklist = k.worklist; pending = k.pending; next_argument = k.next_argument } in
    let xs = c.args.lent.now.entries.now in
    let ys = c.args.lent.now.blocks.now in
    let hs = kept c.args.histories.now in
    let hs₁ = kept c.record_all.new.histories in
    let l = subst (Leaves (λ ms. meet_nodes M e (room_of xs ys) c.args.setting.now.hand (load_of M (memory_of k₁ xs ys hs₁) c.args.lent.now.queued.now ms) (inserted c.args.events.now)) (memory_of c.meet_inserted.new.self.work.now c.meet_inserted.new.self.entries.now c.meet_inserted.new.self.blocks.now hs₁) c.meet_inserted.new.self.queued.now) c.in_ok-meet_inserted.was (c.meet_inserted.ensures.met.leaves hs₁) in
    record {
      same = record { work = c.meet_inserted.ensures.same.work; entries = c.meet_inserted.ensures.same.entries; blocks = c.meet_inserted.ensures.same.blocks; queued = c.meet_inserted.ensures.same.queued };
      handled = record {
        fits = c.meet_inserted.ensures.met.fits;
        entries = c.meet_inserted.ensures.met.entries;
        blocks = c.meet_inserted.ensures.met.blocks;
        few = c.meet_inserted.ensures.met.few;
        leaves = batch_ends M e c.args.setting.now.hand c.args.events.now k k₁ xs ys hs hs₁ c.args.lent.now.queued.now
            (λ i. record { worklist = contents k.worklist xs; pending = pending_in k ys; states = c.mark_all_erased.ensures i; histories = c.record_all.ensures.after i })
            (sym c.in_ok-record_all.ensures.all) c.meet_inserted.new.self.work.now c.meet_inserted.new.self.entries.now c.meet_inserted.new.self.blocks.now c.meet_inserted.new.self.queued.now (kept c.forget_dead.new.self) c.forget_dead.ensures l;
      };
    }
