-- The due definers of an operation, operand by operand.
use Rattle.std.proofs.Common.{◌≡◌, ℕ, suc, ◌+◌, ◌-◌, ◌<◌, ◌≤◌, Bool, true, false, cond, List, [], ◌∷◌, ◌++◌, length, get_or, take, Some, None, Option, sym, refl, ap, ◌∙◌, append_assoc, append-nil, arith}
use Rattle.std.proofs.lemmas.List.{take_more, length-append}
use mathlib.Core.Option as mathlib_option
use Rattle.model.specs.declared.ids.OpId.{OpId}
use Rattle.model.specs.declared.ids.Value.{Value}
use Rattle.model.specs.Model.{Model, Operation, find_op}
use Rattle.model.specs.Erasing.{operands_of}
use Rattle.std.specs.Option.{option_map}
use Rattle.std.specs.List.{slice_get}
use Rattle.law.specs.Lists.{keep, first, then, member}
use Rattle.rules.specs.Setting.{definer_of, definers_of}

pub keep_append : {A : Type 0} (p : A → Bool) (xs ys : List A) → keep p (xs ++ ys) ≡ keep p xs ++ keep p ys
keep_append p [] ys = refl
keep_append p (x ∷ xs) ys = at (p x) (keep_append p xs ys)
  where
    at : (b : Bool) → keep p (xs ++ ys) ≡ keep p xs ++ keep p ys → cond b (x ∷ keep p (xs ++ ys)) (keep p (xs ++ ys)) ≡ cond b (x ∷ keep p xs) (keep p xs) ++ keep p ys
    at true h = ap (λ zs. x ∷ zs) h
    at false h = h

definers_append : (m : Model) (us vs : List Value) → definers_of m (us ++ vs) ≡ definers_of m us ++ definers_of m vs
definers_append m [] vs = refl
definers_append m (u ∷ us) vs = ap (λ z. definer_of m u.definer ++ z) (definers_append m us vs) ∙ sym (append_assoc (definer_of m u.definer) (definers_of m us) (definers_of m vs))

-- one operand more
pub dues_more : (p : OpId → Bool) (m : Model) (vs : List Value) (i : ℕ) (d : Value) (found new : List OpId) → i < length vs → found ≡ keep p (definers_of m (take i vs)) → new ≡ keep p (definer_of m (get_or vs i d).definer)
    → found ++ new ≡ keep p (definers_of m (take (i + 1) vs))
dues_more p m vs i d found new h e k =
    (λ j. e j ++ k j)
    ∙ sym (
    ap (λ z. keep p (definers_of m z)) (take_more vs i d h)
    ∙ ap (keep p) (definers_append m (take i vs) (get_or vs i d ∷ []) ∙ ap (λ z. definers_of m (take i vs) ++ z) (append-nil (definer_of m (get_or vs i d).definer)))
    ∙ keep_append p (definers_of m (take i vs)) (definer_of m (get_or vs i d).definer)
    )

mapped_operands : (q : Option Operation) (vs : List Value) → Some vs ≡ option_map (λ (x : Operation). x.operands) q → vs ≡ operands_of q
mapped_operands None vs e = let z : ◌≡◌ {A = ℕ} 0 1 = cc in absurd (omega arith)
mapped_operands (Some x) vs e = cc

pub operands_read : (m : Model) (o : OpId) (vs : List Value) → Some vs ≡ option_map (λ (x : Operation). x.operands) (find_op m o) → vs ≡ operands_of (find_op m o)
operands_read m o vs e = mapped_operands (find_op m o) vs e

pub one_more : {A : Type 0} (xs ys : List A) (y : A) (i : ℕ) → xs ≡ ys ++ y ∷ [] → length ys ≤ i → length xs ≤ i + 1
one_more xs ys y i e h = omega (arith, ap length e, length-append ys (y ∷ []))

-- a chain that is followed link by link
module _ {A : Type 0} (next : A → mathlib_option.Option A) where
  link_more : (j : ℕ) (x y : A) → next x ≡ mathlib_option.some y → member next (suc j) x ≡ member next j y
  link_more j x y e = ap (λ q. then q (member next j)) e

  link_ends : (j : ℕ) (x : A) → next x ≡ mathlib_option.none → member next (suc j) x ≡ mathlib_option.none
  link_ends j x e = ap (λ q. then q (member next j)) e

  pub link_again : (n k : ℕ) (x y : A) (z : mathlib_option.Option A) → k < n → next x ≡ mathlib_option.some y → member next (n - k) x ≡ z → member next (n - (k + 1)) y ≡ z
  link_again n k x y z h e i =
      let s : n - k ≡ suc (n - (k + 1)) = omega arith in
      sym (link_more (n - (k + 1)) x y e) ∙ ap (λ j. member next j x) (sym s) ∙ i

  pub link_none : (n k : ℕ) (x : A) (z : mathlib_option.Option A) → k < n → next x ≡ mathlib_option.none → member next (n - k) x ≡ z → z ≡ mathlib_option.none
  link_none n k x z h e i =
      let s : n - k ≡ suc (n - (k + 1)) = omega arith in
      sym i ∙ ap (λ j. member next j x) s ∙ link_ends (n - (k + 1)) x e

  pub link_end : (n k : ℕ) (x : A) (z : mathlib_option.Option A) → n ≤ k → member next (n - k) x ≡ z → z ≡ mathlib_option.some x
  link_end n k x z h i = let s : n - k ≡ 0 = omega arith in sym i ∙ ap (λ j. member next j x) s

pub first_some : {A : Type 0} (xs ys : List A) (y : A) → Some y ≡ slice_get xs 0 → xs ≡ ys → first ys ≡ mathlib_option.some y
first_some xs [] y e d = let q = e ∙ ap (λ z. slice_get z 0) d in let z : ◌≡◌ {A = ℕ} 0 1 = cc in absurd (omega arith)
first_some xs (x ∷ ys) y e d = let q = e ∙ ap (λ z. slice_get z 0) d in let s : y ≡ x = cc in ap mathlib_option.some (sym s)

pub first_none : {A : Type 0} (xs ys : List A) → None ≡ slice_get xs 0 → xs ≡ ys → first ys ≡ mathlib_option.none
first_none xs [] e d = refl
first_none xs (x ∷ ys) e d = let q = e ∙ ap (λ z. slice_get z 0) d in let z : ◌≡◌ {A = ℕ} 0 1 = cc in absurd (omega arith)
