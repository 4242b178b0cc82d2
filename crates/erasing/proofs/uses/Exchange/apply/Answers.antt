use Rattle.std.proofs.Common.{rules, ◌∙◌}
use Rattle.std.proofs.lemmas.Iterator.{YieldsList-from_slice, YieldsList-from_zip}
use Rattle.std.proofs.lemmas.Iterator.Consumers.{fold_from_yields_List}
use Rattle.model.specs.declared.ids.Value.{Value}
use Rattle.model.specs.Calls.{replaced}
use Rattle.erasing.proofs.Usings.{chained_fold}
use Rattle.erasing.proofs.uses.Exchange.apply.Goals as goal

pub returns : goal.returns
returns c =
    fold_from_yields_List _ (λ (a : Value) (p : Value × Value). replaced p.0 p.1 a) _ _ c.fold.ensures.ran
    (YieldsList-from_zip (YieldsList-from_slice c.args.self.now.olds.now cc) (YieldsList-from_slice c.args.self.now.news.now cc)) (λ a x b q k. search rules)
    ∙ chained_fold c.args.self.now.olds.now c.args.self.now.news.now c.args.value
