use Rattle.std.proofs.Common.{◌≡◌, ◌<◌, ◌≤◌, false, length, is_ok, sym, ap, ◌∙◌, arith, rules}
use Rattle.row.specs.Items.{row_items}
use Rattle.row.proofs.Rows.{long}
use Rattle.rules.specs.Histories.{types_had, drop_types, add_type, add_types}
use Rattle.histories.specs.Many.{kept}
use Rattle.histories.proofs.Limits.{too_many_types, too_many_values, within_both}
use Rattle.histories.proofs.histories.Histories.go_over.Goals as goal

pub returns-in_err-types-clause-test : goal.returns-in_err-types-clause-test
returns-in_err-types-clause-test c =
    let hs = drop_types (kept c.args.self.now) c.args.old in
    let all = c.as_slice.ensures ∙ c.types_over-all.ensures in
    let long-one : 16 < length c.as_slice.result.now = search rules in
    let many : 16 < length (add_types (types_had hs c.args.new) (add_type (types_had (kept c.args.self.now) c.args.old) c.args.ty)) = omega (arith, ap length all) in
    let no : is_ok c.from_residual.result ≡ false = search rules in
    no ∙ too_many_types c.args.new _ hs many

pub returns-then-not-has_room-clause-test : goal.returns-then-not-has_room-clause-test
returns-then-not-has_room-clause-test c =
    let hs = drop_types (kept c.args.self.now) c.args.old in
    too_many_values c.args.new _ hs (sym c.if-not-has_room.ensures)

pub returns-clause-test : goal.returns-clause-test
returns-clause-test c =
    let hs = drop_types (kept c.args.self.now) c.args.old in
    let made : row_items c.in_ok-types.types ≡ c.as_slice.result.now = search rules in
    let all = made ∙ c.as_slice.ensures ∙ c.types_over-all.ensures in
    let few : length (add_types (types_had hs c.args.new) (add_type (types_had (kept c.args.self.now) c.args.old) c.args.ty)) ≤ 16 = omega (arith, ap length all, long c.in_ok-types.types, c.in_ok-types.types.within) in
    within_both c.args.new _ hs few (sym c.if-not-has_room.ensures)
