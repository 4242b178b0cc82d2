-- The last of a list.
use Rattle.std.proofs.Common.{◌≡◌, ℕ, suc, ◌-◌, ◌/◌, ◌<◌, eqb, List, [], ◌∷◌, length, get_or, reverse, Some, None, Option, sym, refl, ap, ◌∙◌, arith, Bor}
use Rattle.std.specs.List.{find}
use Rattle.std.specs.Option.{option_map, option_or}
use Rattle.std.specs.Slice.{IsGetResult}
use Rattle.std.proofs.lemmas.List.{nil_from_length, reverse-append}
use Rattle.std.proofs.lemmas.List.Folds.{find-append}
use Rattle.conversion.specs.Info.{or_before, last_type, of_kind, last_of_kind}

last_there : (xs : List ℕ) (d : ℕ) → 0 < length xs → last_type xs ≡ Some (get_or xs (length xs - 1) d)
last_there [] d h = let no : ⊥ = omega arith in absurd no
last_there (t ∷ []) d h = refl
last_there (t ∷ u ∷ us) d h =
    let i : suc (suc (length us)) - 1 ≡ suc (suc (length us) - 1) = omega arith in
    ap (λ q. or_before q (Some t)) (last_there (u ∷ us) d (omega arith)) ∙ sym (ap (λ n. Some (get_or (t ∷ u ∷ us) n d)) i)

-- what a slice's `last` answers
pub last_read : (xs : List ℕ) (r : Option (Bor ℕ)) → IsGetResult xs 0 (length xs - 1) r → option_map (λ x. x.now) r ≡ last_type xs
last_read xs None i = sym (ap last_type (nil_from_length xs (omega (arith, i.3))))
last_read xs (Some x) i = ap Some i.1 ∙ sym (last_there xs x.now (omega (arith, i.3.0)))

before_or : (p q : Option ℕ) → option_or p q ≡ or_before p q
before_or None q = refl
before_or (Some t) q = refl

-- the first from the back is the last
pub kind_back : (k : ℕ) (xs : List ℕ) → find (λ t. eqb (t / 65536) k) (reverse xs) ≡ last_of_kind k xs
kind_back k [] = refl
kind_back k (t ∷ ts) =
    ap (find (λ x. eqb (x / 65536) k)) (reverse-append (t ∷ []) ts)
    ∙ find-append (λ x. eqb (x / 65536) k) (reverse ts) (t ∷ [])
    ∙ before_or (find (λ x. eqb (x / 65536) k) (reverse ts)) (of_kind k t)
    ∙ ap (λ q. or_before q (of_kind k t)) (kind_back k ts)

pub same_option : {X : Type 0} (r : Option X) → option_map (λ x. x) r ≡ r
same_option None = refl
same_option (Some x) = refl
