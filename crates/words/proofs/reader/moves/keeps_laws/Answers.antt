use Rattle.words.proofs.Lawful.{lawful-answer}
use Rattle.words.proofs.Only.{only-answer}
use Rattle.words.proofs.reader.moves.keeps_laws.Goals as goal

pub returns : goal.returns
returns c = record { laws = lawful-answer; only = only-answer }
