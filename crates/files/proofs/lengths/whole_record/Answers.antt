-- `files::lengths::whole_record` meets its contract.
use Rattle.files.proofs.FileLaws.{record_whole}
use Rattle.files.proofs.lengths.whole_record.Goals as goal

pub returns : goal.returns
returns c = record_whole c.args.file.now c.args.k
