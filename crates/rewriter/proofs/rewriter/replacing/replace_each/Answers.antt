use Rattle.std.proofs.lemmas.Slice.Zip.{Zip-more, either_empty_from_Zip}
use Rattle.rewriter.proofs.Exchanges.{ahead_next, ahead_old, ahead_new, ahead_room, ahead_step, ahead_done}
use Rattle.rewriter.proofs.rewriter.replacing.replace_each.Goals as goal

pub replace_value-requires : goal.replace_value-requires
replace_value-requires g c =
    let k = Zip-more c.loop-old.old-iterator c.next.new.self c.next.result (c.in-Some.old, c.in-Some.new) c.in-Some.is c.next.ensures.steps in
    let a = ahead_next _ _ _ _ _ _ _ _ _ _ _ k.0 k.1 c.loop-old.invariant in
    record { old = ahead_old _ _ _ _ _ _ _ _ _ a; new = ahead_new _ _ _ _ _ _ _ _ _ a; room = ahead_room _ _ _ _ _ _ _ _ _ a }

pub loop-old-preserved : goal.loop-old-preserved
loop-old-preserved g c =
    let k = Zip-more c.loop-old.old-iterator c.next.new.self c.next.result (c.in-Some.old, c.in-Some.new) c.in-Some.is c.next.ensures.steps in
    ahead_step _ _ _ _ _ _ _ _ _ (ahead_next _ _ _ _ _ _ _ _ _ _ _ k.0 k.1 c.loop-old.invariant) _ _ c.replace_value.ensures.store c.replace_value.ensures.log

pub returns : goal.returns
returns g c =
    let d = ahead_done _ _ _ _ _ _ _ (either_empty_from_Zip c.loop-old.old-iterator c.next.new.self c.next.result c.in-None.is c.next.ensures.steps) c.loop-old.invariant in
    record { store = d.0; log = d.1 }
