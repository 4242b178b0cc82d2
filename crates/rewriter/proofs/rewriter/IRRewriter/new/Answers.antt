use Rattle.calls.proofs.Performing.{lawful_calls}
use Rattle.rewriter.proofs.rewriter.IRRewriter.new.Goals as goal

pub returns-in_err-part-clause-lawful : goal.returns-in_err-part-clause-lawful
returns-in_err-part-clause-lawful g c = lawful_calls

pub returns-clause-lawful : goal.returns-clause-lawful
returns-clause-lawful g c = lawful_calls
