use Rattle.std.proofs.Common.{◌≡◌, true, ◌++◌, length, is_ok, sym, refl, ap, ◌∙◌, arith, rules}
use Rattle.std.proofs.lemmas.List.{length-append}
use Rattle.std.proofs.lemmas.Bool.{lt-leb, le-leb}
use Rattle.queue.specs.Contents.{contents}
use Rattle.queue.proofs.Lengths.{length_contents}
use Rattle.store.specs.Meaning.{meaning as model}
use Rattle.rules.specs.declared.interface.OpEvent.TheVariants as happens
use Rattle.rules_next.specs.Rules.{noted_all}
use Rattle.states.specs.States.{states_in}
use Rattle.work.proofs.Laying.{lay_starts, lay_fits, lay_again, lay_ends, of_ok, sure}
use Rattle.work.proofs.work.Work.lay_front.Goals as goal

pub returns-then-ops-entries : goal.returns-then-ops-entries
returns-then-ops-entries c =
    let k = c.args.self.now in
    let xs = c.args.entries.now in
    let n = length-append c.args.ops.now (contents k.worklist xs) in
    let d = length_contents k.worklist xs c.requires in
    record {
      within = c.requires;
      size = refl;
      pending = refl;
      argument = refl;
      test = sym (lt-leb (length (c.args.ops.now ++ contents k.worklist xs)) (length xs) (omega (arith, n, d, c.requires.1, c.if-ops-entries.true, c.len.ensures)));
      fault = search rules;
      worklist = refl;
      states = refl;
    }

pub loop-op-init : goal.loop-op-init
loop-op-init c =
    let e : c.into_iter-op-iterator.result.iter.rest.now ≡ c.args.ops.now = cc in
    lay_starts (model c.args.store.now) c.args.ops.now c.args.self.now c.args.entries.now c.requires _ e

pub push_front-requires : goal.push_front-requires
push_front-requires c = c.loop-op.invariant.within

pub unwrap-requires : goal.unwrap-requires
unwrap-requires c =
    sure c.push_front.result
    (c.push_front.ensures.test
    ∙ lay_fits (model c.args.store.now) c.args.ops.now c.args.self.now c.args.entries.now c.loop-op.self c.loop-op.entries c.push_front.new.memory _ c.next.new.self.iter.rest.now c.in-Some.op.now c.loop-op.invariant c.in-Some.ensures.steps (omega (arith, c.if-ops-entries.false, c.len.ensures)) c.requires.1)

pub loop-op-preserved : goal.loop-op-preserved
loop-op-preserved c =
    let m = model c.args.store.now in
    let os = c.args.ops.now in
    let k₀ = c.args.self.now in
    let xs₀ = c.args.entries.now in
    let k = c.loop-op.self in
    let xs = c.loop-op.entries in
    let one = c.in-Some.ensures.steps in
    let l = c.loop-op.invariant in
    let ok : is_ok c.push_front.result ≡ true = c.push_front.ensures.test ∙ lay_fits m os k₀ xs₀ k xs c.push_front.new.memory _ c.next.new.self.iter.rest.now c.in-Some.op.now l one (omega (arith, c.if-ops-entries.false, c.len.ensures)) c.requires.1 in
    lay_again m os k₀ xs₀ k xs c.push_front.new.memory _ c.next.new.self.iter.rest.now c.in-Some.op.now l one c.push_front.new.self c.note.new.self c.push_front.ensures.within c.push_front.ensures.size
    (of_ok c.push_front.result ok c.push_front.ensures.count)
    (of_ok c.push_front.result ok c.push_front.ensures.items)
    c.note.ensures

pub returns : goal.returns
returns c =
    let m = model c.args.store.now in
    let os = c.args.ops.now in
    let k = c.args.self.now in
    let xs = c.args.entries.now in
    let i = c.loop-op.invariant in
    let all = lay_ends m os k xs c.loop-op.self c.loop-op.entries _ i c.in-None.ensures.steps.0 in
    let n = length-append os (contents k.worklist xs) in
    let d = length_contents k.worklist xs c.requires in
    record {
      within = i.within;
      size = i.size;
      pending = i.pending;
      argument = i.argument;
      test = sym (le-leb (length (os ++ contents k.worklist xs)) (length xs) (omega (arith, n, d, c.requires.1, c.if-ops-entries.false, c.len.ensures)));
      fault = search rules;
      worklist = i.worklist ∙ ap (λ zs. zs ++ contents k.worklist xs) all;
      states = i.states ∙ ap (λ zs. noted_all m (states_in k.states) zs happens.Queued) all;
    }
