use Rattle.std.proofs.Common.{[], ◌∷◌, ◌++◌, length, ap, ◌∙◌, arith, lit<}
use Rattle.model.proofs.Chains.{result, results_length, results_more}
use Rattle.store.proofs.store.reading.first_results.Goals as goal

pub push-requires : goal.push-requires
push-requires c = (lit< tt, omega (arith, c.requires, c.loop-index-test.true, ap length c.loop-index.invariant, results_length c.args.op 0 c.loop-index.index))

pub loop-index-preserved : goal.loop-index-preserved
loop-index-preserved c = c.push.ensures ∙ ap (λ l. l ++ result c.args.op c.loop-index.index ∷ []) c.loop-index.invariant ∙ results_more c.args.op c.loop-index.index
