-- What contracts see of a command, and of the texts that a command line gives.
use Rattle.std.specs.Prelude.{ℕ, List, Option, option_map}
use Rattle.std.specs.Borrow.{Bor}
use Rattle.solve_words.specs.Words.{Asked, from_number, Given, over_journal}
use Rattle.solve_words.specs.declared.command.Command.{Command}
use Rattle.solve_words.specs.declared.command.Command.TheVariants.{Search, Demo}
use Rattle.solve_words.specs.declared.texts.Texts.{Texts}

-- what a command asks for
abbrev pub asked : Command → Asked
asked (Search journal workers steps table method turns) = over_journal journal.now workers steps table method turns
asked (Demo number steps) = from_number number steps

-- the text behind a reference, if there is one
abbrev pub text_of : Option (Bor (List ℕ)) → Option (List ℕ)
text_of = option_map (λ s. s.now)

-- what texts give
abbrev pub given : Texts → Given
given texts = record {
  journal = text_of texts.journal;
  workers = text_of texts.workers;
  steps = text_of texts.steps;
  demo = text_of texts.demo;
  table = texts.table;
  local = texts.local;
  thorough = texts.thorough;
  turns = texts.turns;
}
