-- Why words give no settings.
use Rattle.std.specs.Prelude.{◌≡◌, ⊤, false, List}
use Rattle.clap.specs.Words.{Text}
use Rattle.clap.specs.declared.error.kind.ErrorKind.{ErrorKind}
use Rattle.clap.specs.declared.error.kind.ErrorKind.TheVariants.{OutOfMemory}
use Rattle.smt_words.specs.declared.error.WordsError.{WordsError}
use Rattle.smt_words.specs.declared.error.WordsError.TheVariants.{Refused, Memory}
use Rattle.smt_words.specs.Words.{are_taken}

-- words are refused only where `clap` takes no such words; memory may be wanting at any words
abbrev pub IsCause : List Text → WordsError → Type 0
IsCause words Refused = are_taken words ≡ false
IsCause words Memory = ⊤

-- what an error of `clap` comes to
abbrev pub cause_of : ErrorKind → WordsError
cause_of OutOfMemory = Memory
cause_of _ = Refused
