use Rattle.closedfiles.proofs.Pages.{all_read}
use Rattle.closedfiles.proofs.reads.closed_files_read.Goals as goal

pub returns : goal.returns
returns c m law o ps w = all_read m law o ps w
