-- What the law needs to know of a setting.
use Rattle.std.specs.Prelude.{◌≡◌, ℕ, ◌<◌, ◌≤◌, true, false, ◌⊎◌, List, length}
use Rattle.law.specs.Lists.{In}
use Rattle.law.specs.Setting.{Setting}

pub record Laws (S : Setting) : Type 1 where
  pub same_is : (x y : S.Op) → S.same x y ≡ true → x ≡ y
  pub same_self : (x : S.Op) → S.same x x ≡ true
  -- was given once, and is dead
  pub Gone : S.Env → S.Op → Type 0
  pub gone_dead : (e : S.Env) (x : S.Op) → Gone e x → S.live e x ≡ false
  pub definers_few : (e : S.Env) (x : S.Op) → S.Good e → S.live e x ≡ true → length (S.definers e x) ≤ 8
  -- where an operation lies in the table
  pub slot : S.Op → ℕ
  pub slot_small : (e : S.Env) (x : S.Op) → S.Good e → S.live e x ≡ true → slot x < 512
  pub slot_one : (e : S.Env) (x y : S.Op) → S.Good e → S.live e x ≡ true → S.live e y ≡ true → slot x ≡ slot y → x ≡ y
  pub rewrite_good : (e : S.Env) (x : S.Op) (d : S.Env) (is : List S.Op) → S.Good e → S.Rewrite e x d is → S.Good d
  pub rewrite_gone : (e : S.Env) (x : S.Op) (d : S.Env) (is : List S.Op) → S.Good e → S.Rewrite e x d is → (y : S.Op) → Gone e y → Gone d y
  pub rewrite_live : (e : S.Env) (x : S.Op) (d : S.Env) (is : List S.Op) → S.Good e → S.Rewrite e x d is → (y : S.Op) → S.live e y ≡ true → (S.live d y ≡ true) ⊎ Gone d y
  pub rewrite_inserted : (e : S.Env) (x : S.Op) (d : S.Env) (is : List S.Op) → S.Good e → S.Rewrite e x d is → (y : S.Op) → In y is → (S.live d y ≡ true) ⊎ Gone d y
  pub retype_good : (e d : S.Env) → S.Good e → S.Retype e d → S.Good d
  pub retype_gone : (e d : S.Env) → S.Good e → S.Retype e d → (y : S.Op) → Gone e y → Gone d y
  pub retype_live : (e d : S.Env) → S.Good e → S.Retype e d → (y : S.Op) → S.live e y ≡ true → (S.live d y ≡ true) ⊎ Gone d y
