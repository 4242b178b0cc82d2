use Rattle.std.proofs.Common.{[], ◌∷◌, ◌++◌, cond, is_ok, sym, ap, ◌∙◌}
use Rattle.queue.specs.Contents.{contents}
use Rattle.queue.proofs.Lengths.{length_contents}
use Rattle.work.specs.Work.{waiting, pendings, pending_in}
use Rattle.work.proofs.Meets.{pushed, held}
use Rattle.work.proofs.work.lent.Lent.meet_block.Goals as goal

pub returns-clause-pending : goal.returns-clause-pending
returns-clause-pending c =
    let k = c.args.self.now.work.now in
    let ys = c.args.self.now.blocks.now in
    let q = c.push_back.new.self in
    let zs = c.push_back.new.memory in
    ap (λ a. pendings a (contents q zs)) c.first_argument-self.ensures
    ∙ pushed k.pending.count k.next_argument (contents k.pending ys) (contents q zs) c.args.block (is_ok c.push_back.result) (length_contents k.pending ys c.args.self.now.fits.pending)
    (held k.pending q ys zs c.args.block c.push_back.result c.push_back.ensures.items c.push_back.ensures.refused)
    ∙ ap (λ b. cond b (pending_in k ys ++ waiting c.args.block ∷ []) (pending_in k ys)) (sym c.map_err.ensures.variant)
