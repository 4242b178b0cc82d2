use Rattle.std.proofs.Common.{cond, ◌&&◌, Some, None, sym, ap, ◌∙◌, subst}
use Rattle.model.specs.declared.refusal.Refusal.TheVariants.{NotLive}
use Rattle.model.specs.Model.{is_value}
use Rattle.model.specs.Later.{Later}
use Rattle.model.proofs.Laters.{replace_later}
use Rattle.tables.specs.View.{view}
use Rattle.store.proofs.store.Store.replace_all_uses.Goals as goal

pub returns : goal.returns
returns c =
    let m = view c.args.self.now.tables in
    let after = c.replace_uses.ensures in
    record {
      answer = (
        ap (λ b. cond (b && is_value m c.args.new) None (Some NotLive)) (sym c.if-not-is_value.ensures) ∙ ap (λ b. cond b None (Some NotLive)) (sym c.if-not-is_value-2.ensures),
        after,
      );
      later = subst (Later m) (sym after) (replace_later m c.args.old c.args.new);
    }
