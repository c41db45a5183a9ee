-- How an answer is printed.
use Rattle.std.specs.Prelude.{ℕ, List, ◌++◌, codes}
use Rattle.std.specs.Fmt.{decimal}
use Rattle.rv_machine.specs.declared.pairing.Pairing.{Pairing}
use Rattle.rv_machine.specs.declared.pairing.Pairing.TheVariants.{Same, Differ}

abbrev pub pairing_text : Pairing → List ℕ
pairing_text Same = codes "same"
pairing_text (Differ place) = codes "differ at " ++ decimal place
