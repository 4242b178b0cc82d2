-- The small setting is one, and what its runs come to.
use Rattle.std.proofs.Common.{◌≡◌, ℕ, ◌<◌, ◌≤◌, Bool, true, false, cond, eqb, ◌⊎◌, List, [], ◌∷◌, length, sym, refl, subst, inl, inr, arith}
use Rattle.std.proofs.lemmas.Bool.{both_ways, eqb-true, eq-eqb, cond_both}
use Rattle.law.specs.Lists.{In, mem}
use Rattle.law.specs.Laws.{Laws}
use Rattle.law.specs.Machine.{unmarked, State, mark_all, stale, wait, rewrite, begun, more}
use Rattle.law.specs.Law.{Endless}
use Rattle.law.specs.Example.{Stage, at_first, then-a, then-b, Shape, single, double, circle, lives, gones, user, used, operands, back, alive, before, after, made, example, Ends, Cases}
use Rattle.law.proofs.Lists.{mem_in, in_mem, length_keep}
use Rattle.law.proofs.Circle.{chains}

member_of : (x : ℕ) (xs : List ℕ) → mem eqb x xs ≡ true → In x xs
member_of = mem_in eqb eqb-true (λ x. eq-eqb x x refl)

short_operands : (h : Shape) (d : ℕ) → length (operands h d) ≤ 8
short_operands single d = omega arith
short_operands double d = omega arith
short_operands circle d = omega arith

short_back : (h : Shape) → length (back h) ≤ 8
short_back single = omega arith
short_back double = omega arith
short_back circle = omega arith

dead : (e : Stage) (x : ℕ) → In x (gones e) → alive e x ≡ false
dead at_first x i = absurd i
dead then-a x (inl d) = rw d
dead then-a x (inr i) = absurd i
dead then-b x (inl d) = rw d
dead then-b x (inr (inl d)) = rw d
dead then-b x (inr (inr i)) = absurd i

small : (e : Stage) (x : ℕ) → In x (lives e) → x < 512
small at_first x (inl d) = omega arith
small at_first x (inr (inl d)) = omega arith
small at_first x (inr (inr (inl d))) = omega arith
small at_first x (inr (inr (inr i))) = absurd i
small then-a x (inl d) = omega arith
small then-a x (inr (inl d)) = omega arith
small then-a x (inr (inr (inl d))) = omega arith
small then-a x (inr (inr (inr i))) = absurd i
small then-b x (inl d) = omega arith
small then-b x (inr (inl d)) = omega arith
small then-b x (inr (inr (inl d))) = omega arith
small then-b x (inr (inr (inr i))) = absurd i

stay_gone : (m : Bool) (y : ℕ) → In y (gones (before m)) → mem eqb y (gones (after m)) ≡ true
stay_gone false y i = absurd i
stay_gone true y (inl d) = rw d
stay_gone true y (inr i) = absurd i

live_on : (m : Bool) (y : ℕ) → In y (lives (before m)) → (alive (after m) y ≡ true) ⊎ (mem eqb y (gones (after m)) ≡ true)
live_on false y (inl d) = inl (rw d)
live_on false y (inr (inl d)) = inl (rw d)
live_on false y (inr (inr (inl d))) = inr (rw d)
live_on false y (inr (inr (inr i))) = absurd i
live_on true y (inl d) = inl (rw d)
live_on true y (inr (inl d)) = inr (rw d)
live_on true y (inr (inr (inl d))) = inl (rw d)
live_on true y (inr (inr (inr i))) = absurd i

inserted_live : (m : Bool) (y : ℕ) → In y (made m) → (alive (after m) y ≡ true) ⊎ (mem eqb y (gones (after m)) ≡ true)
inserted_live false y (inl d) = inl (rw d)
inserted_live false y (inr i) = absurd i
inserted_live true y (inl d) = inl (rw d)
inserted_live true y (inr i) = absurd i

pub example_laws : (h : Shape) → Laws (example h)
example_laws h = record {
  same_is = eqb-true;
  same_self = λ x. eq-eqb x x refl;
  Gone = λ e x. mem eqb x (gones e) ≡ true;
  gone_dead = λ e x g. dead e x (member_of x (gones e) g);
  definers_few = λ e x _ l.
      let raw = cond (eqb x (user e)) (operands h (used e)) (cond (eqb x 1) (back h) []) in
      let k : length raw ≤ 8 = cond_both (eqb x (user e)) (operands h (used e)) (cond (eqb x 1) (back h) []) (λ zs. length zs ≤ 8) (λ _. short_operands h (used e))
      (λ _. cond_both (eqb x 1) (back h) [] (λ zs. length zs ≤ 8) (λ _. short_back h) (λ _. omega arith)) in
      omega (arith, k, length_keep (alive e) raw);
  slot = λ x. x;
  slot_small = λ e x _ l. small e x (member_of x (lives e) l);
  slot_one = λ e x y _ _ _ d. d;
  rewrite_good = λ e x d is _ k. tt;
  rewrite_gone = λ e x d is _ k y g. subst (λ z. mem eqb y (gones z) ≡ true) k.3 (stay_gone k.0 y (member_of y (gones (before k.0)) (subst (λ z. mem eqb y (gones z) ≡ true) (sym k.1) g)));
  rewrite_live = λ e x d is _ k y l. subst (λ z. (alive z y ≡ true) ⊎ (mem eqb y (gones z) ≡ true)) k.3 (live_on k.0 y (member_of y (lives (before k.0)) (subst (λ z. alive z y ≡ true) (sym k.1) l)));
  rewrite_inserted = λ e x d is _ k y i. subst (λ z. (alive z y ≡ true) ⊎ (mem eqb y (gones z) ≡ true)) k.3 (inserted_live k.0 y (subst (In y) (sym k.4) i));
  retype_good = λ e d _ k. tt;
  retype_gone = λ e d _ k. absurd k;
  retype_live = λ e d _ k. absurd k;
}

met_live : (y : ℕ) → In y (4 ∷ 0 ∷ 1 ∷ []) → alive at_first y ≡ true
met_live y i = in_mem eqb eqb-true (λ x. eq-eqb x x refl) y (4 ∷ 0 ∷ 1 ∷ []) i

-- b(a), a: b waits, a and b are rewritten, a's second entry is stale
with_one_use : Ends single 2 4 2 1
with_one_use = (
  _,
  _,
  more (more (more (more (begun at_first (4 ∷ 0 ∷ 1 ∷ []) _ 0 tt met_live (λ y l. refl))
      (wait 0 1 (1 ∷ []) [] _ refl refl refl refl refl (refl, refl) (λ y l. refl)))
      (rewrite 1 (0 ∷ 1 ∷ []) (2 ∷ []) then-a _ 0 refl refl refl refl refl refl (false, refl, refl, refl, refl) (λ y l. refl)))
      (rewrite 0 (1 ∷ []) (3 ∷ []) then-b _ 0 refl refl refl refl refl refl (true, refl, refl, refl, refl) (λ y l. refl)))
      (stale 1 [] _ refl refl (λ l q. both_ways false refl l) (λ y l. refl)),
  refl,
  refl,
  refl,
  refl,
  refl,
  refl,
)

-- b(a, a), a: two entries are stale
with_two_uses : Ends double 2 5 2 1
with_two_uses = (
  _,
  _,
  more (more (more (more (more (begun at_first (4 ∷ 0 ∷ 1 ∷ []) _ 0 tt met_live (λ y l. refl))
      (wait 0 1 (1 ∷ []) [] _ refl refl refl refl refl (refl, refl) (λ y l. refl)))
      (rewrite 1 (1 ∷ 0 ∷ 1 ∷ []) (2 ∷ []) then-a _ 0 refl refl refl refl refl refl (false, refl, refl, refl, refl) (λ y l. refl)))
      (stale 1 (0 ∷ 1 ∷ []) _ refl refl (λ l q. both_ways false refl l) (λ y l. refl)))
      (rewrite 0 (1 ∷ []) (3 ∷ []) then-b _ 0 refl refl refl refl refl refl (true, refl, refl, refl, refl) (λ y l. refl)))
      (stale 1 [] _ refl refl (λ l q. both_ways false refl l) (λ y l. refl)),
  refl,
  refl,
  refl,
  refl,
  refl,
  refl,
)

abbrev met_circle : State (example circle)
met_circle = record { env = at_first; worklist = 0 ∷ 1 ∷ []; marks = mark_all (example circle) at_first (λ y. unmarked) (4 ∷ 0 ∷ 1 ∷ []); pending = 0; taken = 0; rewrites = 0; waits = 0 }

-- a(b), b(a): no step from the front entry
turns : Endless (example circle) met_circle 0
turns = (chains (example circle) (example_laws circle) met_circle tt).never 0 0 refl refl

pub cases : Cases
cases = record {
  one_use = with_one_use;
  two_uses = with_two_uses;
  a_circle = (
    _,
    met_circle,
    begun at_first (4 ∷ 0 ∷ 1 ∷ []) (mark_all (example circle) at_first (λ y. unmarked) (4 ∷ 0 ∷ 1 ∷ [])) 0 tt met_live (λ y l. refl),
    turns,
    (chains (example circle) (example_laws circle) met_circle tt).stuck 0 (1 ∷ []) refl refl refl refl refl turns,
  );
}
