use Rattle.std.proofs.Common.{true, false, ◌++◌, map, length, sym, refl, ap, ◌∙◌}
use Rattle.model.specs.declared.refusal.Refusal.TheVariants.{NotLive}
use Rattle.row.specs.Items.{row_items}
use Rattle.store.specs.Meaning.{meaning}
use Rattle.walkers.specs.Listed.{nodes_in}
use Rattle.calls.specs.World.{World, replace_with, kept, fits}
use Rattle.calls.specs.Refusing.{exchange_refusal}
use Rattle.calls.specs.Perform.{erasing}
use Rattle.calls.proofs.Outcomes.{performed_refused}
use Rattle.rewriter.specs.Seen.{world}
use Rattle.model.proofs.Refusals.{passes, fails}
use Rattle.rewriter.proofs.Ways.{handed}
use Rattle.rewriter.proofs.Exchanges.{with_dead, with_live, Exchange, exchange_fits, exchange_olds, exchange_room, exchange_full, erase_room, exchange_closed, exchange_unused, exchange_done}
use Rattle.rewriter.proofs.rewriter.IRRewriter.replace_operation_with_values.Goals as goal

pub returns-in_err-list_part : goal.returns-in_err-list_part
returns-in_err-list_part g c =
    let h = c.in_err-list_part.ensures in
    handed _ _ (replace_with c.args.op c.args.values.now) _ _ _ _ c.from_residual.result c.from_residual.ensures.1 h.1
    (performed_refused _ _ (replace_with c.args.op c.args.values.now) NotLive (with_dead (meaning c.args.store.now) c.args.op c.args.values.now h.0))

pub returns-then-not-are_live : goal.returns-then-not-are_live
returns-then-not-are_live g c =
    performed_refused _ _ (replace_with c.args.op c.args.values.now) NotLive
    (with_live (meaning c.args.store.now) c.args.op c.args.values.now c.in_ok-list_part.ensures.allowed false c.if-not-are_live.ensures)

pub returns-in_err-check_exchange : goal.returns-in_err-check_exchange
returns-in_err-check_exchange g c =
    let m = meaning c.args.store.now in
    handed _ _ (replace_with c.args.op c.args.values.now) _ _ _ _ c.from_residual-in_err-check_exchange.result c.from_residual-in_err-check_exchange.ensures.1 refl
    (performed_refused _ _ (replace_with c.args.op c.args.values.now) c.in_err-check_exchange.field-0.0
    (with_live m c.args.op c.args.values.now c.in_ok-list_part.ensures.allowed true c.if-not-are_live.ensures ∙ fails (exchange_refusal m c.args.op c.args.values.now) _ c.in_err-check_exchange.ensures))

pub returns-in_err-room : goal.returns-in_err-room
returns-in_err-room g c =
    let keeps = g.L.RewriteListener.keeps in
    let w : World = world g.L.RewriteListener.log c.args.store.now c.args.self.now in
    let o = c.args.op in
    let ws = c.args.values.now in
    let ns = nodes_in c.list_part.new.part in
    let vs = row_items c.results-results.result in
    let x : Exchange w.model o vs ws ns = record { part = c.in_ok-list_part.ensures; olds = c.results-results.ensures; news = c.if-not-are_live.ensures; allowed = passes _ c.in_ok-check_exchange.ensures } in
    handed _ _ (replace_with o ws) _ _ _ _ c.from_residual-in_err-room.result c.from_residual-in_err-room.ensures.1 c.in_err-room.ensures.0
    (exchange_full keeps w o vs ws ns x (exchange_fits keeps w o vs ws ns x c.len.result c.len-2.result false c.len.ensures.value c.len-2.ensures.value (sym c.in_err-room.ensures.1)))

pub replace_each-requires : goal.replace_each-requires
replace_each-requires g c =
    let keeps = g.L.RewriteListener.keeps in
    let w : World = world g.L.RewriteListener.log c.args.store.now c.args.self.now in
    let o = c.args.op in
    let ws = c.args.values.now in
    let ns = nodes_in c.list_part.new.part in
    let vs = c.as_slice.result.now in
    let x : Exchange w.model o vs ws ns =
    record { part = c.in_ok-list_part.ensures; olds = c.as_slice.ensures ∙ c.results-results.ensures; news = c.if-not-are_live.ensures; allowed = passes _ c.in_ok-check_exchange.ensures } in
    let f = exchange_fits keeps w o vs ws ns x c.len.result c.len-2.result true (c.len.ensures.value ∙ sym (ap length c.as_slice.ensures)) c.len-2.ensures.value (sym c.in_ok-room.ensures) in
    record { olds = exchange_olds keeps w o vs ws ns x; news = sym x.news; room = exchange_room keeps w o vs ws ns x f }

pub notify_erasures-requires : goal.notify_erasures-requires
notify_erasures-requires g c =
    let keeps = g.L.RewriteListener.keeps in
    let w : World = world g.L.RewriteListener.log c.args.store.now c.args.self.now in
    let o = c.args.op in
    let ws = c.args.values.now in
    let ns = nodes_in c.list_part.new.part in
    let vs = c.as_slice.result.now in
    let x : Exchange w.model o vs ws ns =
    record { part = c.in_ok-list_part.ensures; olds = c.as_slice.ensures ∙ c.results-results.ensures; news = c.if-not-are_live.ensures; allowed = passes _ c.in_ok-check_exchange.ensures } in
    let f = exchange_fits keeps w o vs ws ns x c.len.result c.len-2.result true (c.len.ensures.value ∙ sym (ap length c.as_slice.ensures)) c.len-2.ensures.value (sym c.in_ok-room.ensures) in
    let es = g.L.RewriteListener.log c.replace_each.new.listener in
    ap (λ ks. fits keeps es (length ks)) c.as_slice-2.ensures ∙ erase_room keeps w o vs ws ns x f es c.replace_each.ensures.log

pub erase_part-requires : goal.erase_part-requires
erase_part-requires g c =
    let keeps = g.L.RewriteListener.keeps in
    let w : World = world g.L.RewriteListener.log c.args.store.now c.args.self.now in
    let o = c.args.op in
    let ws = c.args.values.now in
    let ns = nodes_in c.list_part.new.part in
    let vs = c.as_slice.result.now in
    let x : Exchange w.model o vs ws ns =
    record { part = c.in_ok-list_part.ensures; olds = c.as_slice.ensures ∙ c.results-results.ensures; news = c.if-not-are_live.ensures; allowed = passes _ c.in_ok-check_exchange.ensures } in
    let m = meaning c.replace_each.new.store in
    record { closed = exchange_closed keeps w o vs ws ns x m c.replace_each.ensures.store; unused = exchange_unused keeps w o vs ws ns x m c.replace_each.ensures.store }

pub returns : goal.returns
returns g c =
    let keeps = g.L.RewriteListener.keeps in
    let w : World = world g.L.RewriteListener.log c.args.store.now c.args.self.now in
    let o = c.args.op in
    let ws = c.args.values.now in
    let ns = nodes_in c.list_part.new.part in
    let vs = c.as_slice.result.now in
    let x : Exchange w.model o vs ws ns =
    record { part = c.in_ok-list_part.ensures; olds = c.as_slice.ensures ∙ c.results-results.ensures; news = c.if-not-are_live.ensures; allowed = passes _ c.in_ok-check_exchange.ensures } in
    let f = exchange_fits keeps w o vs ws ns x c.len.result c.len-2.result true (c.len.ensures.value ∙ sym (ap length c.as_slice.ensures)) c.len-2.ensures.value (sym c.in_ok-room.ensures) in
    let es = g.L.RewriteListener.log c.replace_each.new.listener in
    exchange_done keeps w o vs ws ns x f (meaning c.replace_each.new.store) c.replace_each.ensures.store _ c.erase_part.ensures refl es c.replace_each.ensures.log
    (c.notify_erasures.ensures ∙ ap (λ ks. es ++ kept keeps (map erasing ks)) c.as_slice-2.ensures)
