use Rattle.tables.proofs.LinkLaws.{insert_view}
use Rattle.tables.proofs.tables.Tables.insert.Goals as goal

pub returns : goal.returns
returns c =
    let h = insert_view c.args.self.now c.link_operation.new.lists c.args.point c.args.op c.requires.linked c.link_operation.ensures in
    record { after = h.0; sizes = h.1 }
