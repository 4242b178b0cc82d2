use Rattle.std.proofs.Common.{eqb, [], ◌∷◌, ◌++◌, length, ap, ◌∙◌, arith, lit<}
use Rattle.histories.proofs.Joins.{length_less, length_added}
use Rattle.histories.proofs.joining.add_type.Goals as goal

pub push-requires : goal.push-requires
push-requires c = (lit< tt, omega (arith, ap length c.without-all.ensures, length_less (eqb c.args.ty) c.args.types.now, c.requires))

pub returns-clause-count : goal.returns-clause-count
returns-clause-count c =
    let e = c.push.ensures ∙ ap (λ ts. ts ++ c.args.ty ∷ []) c.without-all.ensures in
    omega (arith, ap length e, length_added c.args.types.now c.args.ty)
