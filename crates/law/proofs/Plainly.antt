-- A plain setting has the laws.
use Rattle.std.proofs.Common.{◌≡◌, true, ◌⊎◌, sym, subst}
use Rattle.law.specs.Lists.{In}
use Rattle.law.specs.Laws.{Laws}
use Rattle.law.specs.Plain.{Plain, setting}

pub laws : {O E M T : Type 0} (P : Plain O E M T) → Laws (setting P)
laws P = record {
  same_is = P.same_is;
  same_self = P.same_self;
  Gone = λ e y. P.gone e y ≡ true;
  gone_dead = P.gone_dead;
  definers_few = λ e x _. P.definers_few e x;
  slot = P.slot;
  slot_small = λ e x _. P.slot_small e x;
  slot_one = λ e x y _. P.slot_one e x y;
  rewrite_good = λ e x d is _ k. tt;
  rewrite_gone = λ e x d is _ k y g. subst (λ z. P.gone z y ≡ true) k.3 (P.rewrite_gone k.0 y (subst (λ z. P.gone z y ≡ true) (sym k.1) g));
  rewrite_live = λ e x d is _ k y l. subst (λ z. (P.live z y ≡ true) ⊎ (P.gone z y ≡ true)) k.3 (P.rewrite_live k.0 y (subst (λ z. P.live z y ≡ true) (sym k.1) l));
  rewrite_inserted = λ e x d is _ k y i. subst (λ z. (P.live z y ≡ true) ⊎ (P.gone z y ≡ true)) k.3 (P.rewrite_inserted k.0 y (subst (In y) (sym k.4) i));
  retype_good = λ e d _ k. tt;
  retype_gone = λ e d _ k y g. subst (λ z. P.gone z y ≡ true) k.2 (P.retype_gone k.0 y (subst (λ z. P.gone z y ≡ true) (sym k.1) g));
  retype_live = λ e d _ k y l. subst (λ z. (P.live z y ≡ true) ⊎ (P.gone z y ≡ true)) k.2 (P.retype_live k.0 y (subst (λ z. P.live z y ≡ true) (sym k.1) l));
}
