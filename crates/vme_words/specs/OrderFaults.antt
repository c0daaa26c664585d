-- Why words, i.e. arguments of the command line, are no order (no parsed command).
use Rattle.std.specs.Prelude.{◌≡◌, ◌≢◌, List}
use Rattle.clap.specs.Words.{IsAmong, Text, fault_of, kind_of}
use Rattle.clap.specs.declared.error.Error.{Error}
use Rattle.clap.specs.declared.error.kind.ErrorKind.{ErrorKind}
use Rattle.clap.specs.declared.error.kind.ErrorKind.TheVariants.{OutOfMemory}
use Rattle.vme_words.specs.Commands.{vmecheck_app}
use Rattle.vme_words.specs.declared.order_fault.OrderFault.{OrderFault}
use Rattle.vme_words.specs.declared.order_fault.OrderFault.TheVariants.{Usage, Memory}

-- a `Usage` fault isn't want of memory, for which there is `Memory`
abbrev pub IsOfWords : OrderFault → Type 0
IsOfWords (Usage error) = kind_of error ≢ OutOfMemory
IsOfWords Memory = Unit {0}

-- a fault of the words, unless it is `Memory`, has the kind `kind`
abbrev pub HasUsageKind : ErrorKind → OrderFault → Type 0
HasUsageKind kind (Usage error) = kind_of error ≡ kind
HasUsageKind kind Memory = Unit {0}

-- how an error of a parse becomes a fault: an `OutOfMemory` error becomes `Memory`, and any other error `Usage error`
pub record ComesOf (error : Error) (fault : OrderFault) : Type 0 where
  pub of_words : IsOfWords fault
  pub memory : kind_of error ≡ OutOfMemory → fault ≡ Memory
  pub usage : kind_of error ≢ OutOfMemory → fault ≡ Usage error

-- a fault of `words`: memory ran out, or the error has a kind that clap's rules give the words
abbrev pub IsFaultOf : List Text → OrderFault → Type 0
IsFaultOf words (Usage error) = IsAmong (kind_of error) (fault_of vmecheck_app words)
IsFaultOf words Memory = Unit {0}
