-- Entries that are laid before the worklist, the last first.
use Rattle.std.proofs.Common.{◌≡◌, ◌+◌, ◌-◌, ◌≤◌, true, false, ltb, List, [], ◌∷◌, ◌++◌, length, is_ok, OnOk, IsOk, Ok, Err, Result, sym, refl, ap, ◌∙◌, append_assoc, arith, rules}
use Rattle.std.proofs.lemmas.Bool.{lt-ltb, both_ways}
use Rattle.std.proofs.lemmas.List.{append-nil, length-append}
use Rattle.model.specs.declared.ids.OpId.{OpId}
use Rattle.model.specs.Model.{Model}
use Rattle.queue.specs.declared.queue.Queue.{Queue}
use Rattle.queue.specs.Contents.{contents, Within}
use Rattle.rules.specs.declared.interface.OpEvent.TheVariants as happens
use Rattle.rules_next.specs.Driver.{noted}
use Rattle.rules_next.specs.Rules.{noted_all}
use Rattle.states.specs.declared.states.States.{States}
use Rattle.states.specs.States.{states_in}
use Rattle.work.specs.declared.work.Work.{Work}

-- what an answer that is no error promises
pub of_ok : {X E P : Type 0} (r : Result X E) → is_ok r ≡ true → OnOk r P → P
of_ok (Ok x) h p = p
of_ok (Err e) h p = absurd (both_ways false refl h)

pub sure : {X E : Type 0} (r : Result X E) → is_ok r ≡ true → IsOk r
sure (Ok x) h = search rules
sure (Err e) h = absurd (both_ways false refl h)

-- all but `rest` are laid
pub record Laying (m : Model) (os : List OpId) (k₀ : Work) (xs₀ : List OpId) (k : Work) (xs : List OpId) (rest : List OpId) : Type 0 where
  pub laid : List OpId
  pub whole : os ≡ rest ++ laid
  pub within : Within k.worklist xs
  pub size : length xs ≡ length xs₀
  pub count : k.worklist.count ≡ k₀.worklist.count + length laid
  pub pending : k.pending ≡ k₀.pending
  pub argument : k.next_argument ≡ k₀.next_argument
  pub worklist : contents k.worklist xs ≡ laid ++ contents k₀.worklist xs₀
  pub states : states_in k.states ≡ noted_all m (states_in k₀.states) laid happens.Queued

module _ (m : Model) (os : List OpId) (k₀ : Work) (xs₀ : List OpId) where
  pub lay_starts : Within k₀.worklist xs₀ → (rest : List OpId) → rest ≡ os → Laying m os k₀ xs₀ k₀ xs₀ rest
  lay_starts w rest e = record {
    laid = [];
    whole = sym (append-nil rest ∙ e);
    within = w;
    size = refl;
    count = omega arith;
    pending = refl;
    argument = refl;
    worklist = refl;
    states = refl;
  }

  module _ (k : Work) (xs xs' : List OpId) (rest more : List OpId) (o : OpId) (l : Laying m os k₀ xs₀ k xs rest) (one : rest ≡ more ++ o ∷ []) where
    pub lay_fits : length os ≤ length xs₀ - k₀.worklist.count → k₀.worklist.count ≤ length xs₀ → ltb k.worklist.count (length xs) ≡ true
    lay_fits h w =
        let n = ap length one ∙ length-append more (o ∷ []) in
        let a = ap length l.whole ∙ length-append rest l.laid in
        lt-ltb k.worklist.count (length xs) (omega (arith, n, a, l.count, l.size, h, w))

    pub lay_again : (p : Queue) (s : States) → Within p xs' → length xs' ≡ length xs → p.count ≡ k.worklist.count + 1 → contents p xs' ≡ o ∷ contents k.worklist xs → states_in s ≡ noted m (states_in k.states) o happens.Queued
        → Laying m os k₀ xs₀ (record { states = s; worklist = p; pending = k.pending; next_argument = k.next_argument }) xs' more
    lay_again p s w size count items noting = record {
      laid = o ∷ l.laid;
      whole = l.whole ∙ ap (λ zs. zs ++ l.laid) one ∙ append_assoc more (o ∷ []) l.laid;
      within = w;
      size = size ∙ l.size;
      count = omega (arith, l.count, count);
      pending = l.pending;
      argument = l.argument;
      worklist = items ∙ ap (λ zs. o ∷ zs) l.worklist;
      states = noting ∙ ap (λ ks. noted m ks o happens.Queued) l.states;
    }

  pub lay_ends : (k : Work) (xs : List OpId) (rest : List OpId) → (l : Laying m os k₀ xs₀ k xs rest) → length rest ≡ 0 → l.laid ≡ os
  lay_ends k xs [] l h = sym l.whole
  lay_ends k xs (o ∷ rest) l h = absurd (omega arith)
