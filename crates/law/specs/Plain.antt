-- A setting with its laws in which every part is of `Type 0`: operations O, environments E, and the rewrites M and type questions T that can happen, each with what it leads from and to.
use Rattle.std.specs.Prelude.{◌≡◌, ℕ, ◌<◌, ◌≤◌, Bool, true, false, ◌⊎◌, List, length}
use Rattle.law.specs.Lists.{In}
use Rattle.law.specs.Setting.{Setting}

pub record Plain (O E M T : Type 0) : Type 0 where
  pub same : O → O → Bool
  pub same_is : (x y : O) → same x y ≡ true → x ≡ y
  pub same_self : (x : O) → same x x ≡ true
  pub live : E → O → Bool
  pub gone : E → O → Bool
  pub gone_dead : (e : E) (x : O) → gone e x ≡ true → live e x ≡ false
  pub convertible : E → O → Bool
  pub definers : E → O → List O
  pub definers_few : (e : E) (x : O) → live e x ≡ true → length (definers e x) ≤ 8
  pub slot : O → ℕ
  pub slot_small : (e : E) (x : O) → live e x ≡ true → slot x < 512
  pub slot_one : (e : E) (x y : O) → live e x ≡ true → live e y ≡ true → slot x ≡ slot y → x ≡ y
  pub before : M → E
  pub rewritten : M → O
  pub after : M → E
  pub inserted : M → List O
  pub rewrite_gone : (m : M) (y : O) → gone (before m) y ≡ true → gone (after m) y ≡ true
  pub rewrite_live : (m : M) (y : O) → live (before m) y ≡ true → (live (after m) y ≡ true) ⊎ (gone (after m) y ≡ true)
  pub rewrite_inserted : (m : M) (y : O) → In y (inserted m) → (live (after m) y ≡ true) ⊎ (gone (after m) y ≡ true)
  pub asked_before : T → E
  pub asked_after : T → E
  pub retype_gone : (m : T) (y : O) → gone (asked_before m) y ≡ true → gone (asked_after m) y ≡ true
  pub retype_live : (m : T) (y : O) → live (asked_before m) y ≡ true → (live (asked_after m) y ≡ true) ⊎ (gone (asked_after m) y ≡ true)

abbrev pub setting : {O E M T : Type 0} → Plain O E M T → Setting
setting {O} {E} {M} {T} P = record {
  Op = O;
  same = P.same;
  Env = E;
  Good = λ e. Unit {0};
  live = P.live;
  convertible = P.convertible;
  definers = P.definers;
  Rewrite = λ e x d is. (m : M) × (P.before m ≡ e) × (P.rewritten m ≡ x) × (P.after m ≡ d) × (P.inserted m ≡ is);
  Retype = λ e d. (m : T) × (P.asked_before m ≡ e) × (P.asked_after m ≡ d);
}
