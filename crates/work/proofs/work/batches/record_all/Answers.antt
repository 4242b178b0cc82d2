use Rattle.std.proofs.Common.{◌≡◌, ◌+◌, true, false, get_or, drop, is_ok, sym, ap, ◌∙◌, rules}
use Rattle.std.proofs.lemmas.List.{drop_more, drop_all}
use Rattle.histories.specs.Many.{kept}
use Rattle.work.specs.Batches.{Recorded, record_all}
use Rattle.rules.specs.Histories.{recorded}
use Rattle.work.proofs.Handles.{zero_event, record_stops, record_goes, none_kept}
use Rattle.work.proofs.work.batches.record_all.Goals as goal

pub returns-in_err-record : goal.returns-in_err-record
returns-in_err-record c =
    let es = c.args.events.now in
    let i = c.loop-event.event-index in
    let hs = kept c.loop-event.histories in
    let e = get_or es i zero_event in
    let none = sym c.record.ensures.test ∙ ap is_ok c.in_err-record.was in
    let all : record_all (kept c.args.histories.now) es ≡ record { histories = hs; all = false } =
    sym c.loop-event.invariant ∙ ap (record_all hs) (drop_more es i zero_event c.loop-event-test.true) ∙ record_stops hs e (drop (i + 1) es) none in
    let no : is_ok c.from_residual.result ≡ false = search rules in
    record {
      all = no ∙ sym (ap (λ (d : Recorded). d.all) all);
      fault = search rules;
      after = c.record.ensures.after ∙ none_kept hs (recorded hs e) none ∙ sym (ap (λ (d : Recorded). d.histories) all);
    }

pub loop-event-preserved : goal.loop-event-preserved
loop-event-preserved c =
    let es = c.args.events.now in
    let i = c.loop-event.event-index in
    let hs = kept c.loop-event.histories in
    let e = get_or es i zero_event in
    ap (λ ks. record_all ks (drop (i + 1) es)) c.record.ensures.after
    ∙ record_goes hs e (drop (i + 1) es) (sym c.record.ensures.test ∙ ap is_ok c.in_ok-record.was)
    ∙ ap (record_all hs) (sym (drop_more es i zero_event c.loop-event-test.true))
    ∙ c.loop-event.invariant

pub returns : goal.returns
returns c =
    let hs = kept c.loop-event.histories in
    let all : record_all (kept c.args.histories.now) c.args.events.now ≡ record { histories = hs; all = true } =
    sym c.loop-event.invariant ∙ ap (record_all hs) (drop_all c.loop-event.event-index c.args.events.now c.loop-event-test.false) in
    record { all = sym (ap (λ (d : Recorded). d.all) all); fault = search rules; after = sym (ap (λ (d : Recorded). d.histories) all) }
