use Rattle.std.proofs.Common.{◌≡◌, ◌<◌, ◌≤◌, false, length, is_ok, ap, ◌∙◌, arith, rules}
use Rattle.std.proofs.lemmas.Bool.{le-leb, lt-leb}
use Rattle.row.specs.Items.{row_items}
use Rattle.row.proofs.Rows.{long}
use Rattle.rules.specs.Histories.{types_had, add_type}
use Rattle.histories.specs.Kept.{size_with}
use Rattle.histories.specs.Many.{kept}
use Rattle.histories.proofs.Limits.{too_many_types, too_many_values, within_both}
use Rattle.histories.proofs.histories.Histories.change_type.Goals as goal

pub returns-in_err-types-clause-test : goal.returns-in_err-types-clause-test
returns-in_err-types-clause-test c =
    let hs = kept c.args.self.now in
    let v = c.args.value in
    let all = c.as_slice.ensures ∙ c.add_type-all.ensures.items ∙ ap (λ ts. add_type ts c.args.ty) c.types_had.ensures.value in
    let long-one : 16 < length c.as_slice.result.now = search rules in
    let over : 16 < length (add_type (types_had hs v) c.args.ty) = omega (arith, ap length all) in
    let no : is_ok c.from_residual.result ≡ false = search rules in
    no ∙ too_many_types v (add_type (types_had hs v) c.args.ty) hs over

pub returns-then-size_with-gt-MAX_HISTORIES-clause-test : goal.returns-then-size_with-gt-MAX_HISTORIES-clause-test
returns-then-size_with-gt-MAX_HISTORIES-clause-test c =
    let hs = kept c.args.self.now in
    let v = c.args.value in
    let over : 1024 < size_with hs v = omega (arith, c.size_with.ensures) in
    too_many_values v (add_type (types_had hs v) c.args.ty) hs (lt-leb _ _ over)

pub returns-clause-test : goal.returns-clause-test
returns-clause-test c =
    let hs = kept c.args.self.now in
    let v = c.args.value in
    let made : row_items c.in_ok-types.types ≡ c.as_slice.result.now = search rules in
    let all = made ∙ c.as_slice.ensures ∙ c.add_type-all.ensures.items ∙ ap (λ ts. add_type ts c.args.ty) c.types_had.ensures.value in
    let few : length (add_type (types_had hs v) c.args.ty) ≤ 16 = omega (arith, ap length all, long c.in_ok-types.types, c.in_ok-types.types.within) in
    let room : size_with hs v ≤ 1024 = omega (arith, c.size_with.ensures) in
    within_both v (add_type (types_had hs v) c.args.ty) hs few (le-leb _ _ room)
