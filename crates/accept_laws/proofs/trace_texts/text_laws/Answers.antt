use Rattle.accept_laws.proofs.Few.{traces_few}
use Rattle.accept_laws.proofs.Fits.{traces_fit}
use Rattle.accept_laws.proofs.TextLines.{text_lines}
use Rattle.accept_laws.proofs.trace_texts.text_laws.Goals as goal

pub returns : goal.returns
returns c = record { lines = text_lines; fit = traces_fit; few = traces_few }
