-- Why there is no function of a joined text: what is said of the text is said of libraries and a file.
use Rattle.std.proofs.Common.{◌≡◌, ℕ, Bool, List, subst}
use Rattle.commands.specs.Below.{numbered_of, Place, Refusal}
use Rattle.commands.specs.Contents.{Contents, Store}
use Rattle.commands.specs.Failures.{IsReadBy}
use Rattle.commands.specs.FunctionFiles.{IsFaultIn, IsTakenIn, not_accepted, RefusesFunction, taken_name}
use Rattle.commands.specs.Sources.{IsReadFrom}
use Rattle.command_line.specs.declared.options.LinkOptions.{LinkOptions}
use Rattle.commands.specs.declared.fault.Fault.{Fault}
use Rattle.commands.specs.declared.fault.Fault.TheVariants.{Text, Explained, Image, Run, Eval, Plan, Harts, Vectors}
use Rattle.commands.specs.declared.fault.Fault.TheVariants.{Code, Name, Elf, Unmet, File, InLibrary, ExplainedInLibrary}
use Rattle.commands.proofs.Counting.{tells_in_calm}
use Rattle.commands.proofs.SourceLemmas.{refused_as_lent, refused_in_sources}
use Rattle.functions.specs.declared.function_text.fault.FunctionFault.{FunctionFault}
use Rattle.functions.specs.declared.function_text.fault.FunctionFault.TheVariants as faults
use Rattle.functions.specs.function_text.Functions.{HasTakenName, IsFaultOf}
use Rattle.image_reports.specs.declared.source_places.Library.{Library}

pub fault_of_sources : {options : LinkOptions} {files : Contents} {paths : List (List ℕ)} {path text lent : List ℕ}
    {libraries lent_libraries : List Library} {told : Fault} (fault : FunctionFault Refusal)
    → IsReadFrom files paths path text (numbered_of libraries) → lent ≡ text → lent_libraries ≡ libraries
    → IsFaultOf options.compile.profile options.prefix.text.now lent fault
    → IsFaultIn options.compile.explain lent (numbered_of lent_libraries) fault told
    → RefusesFunction options files paths path told
fault_of_sources (faults.Text refusal) read is are why tells =
    not_accepted (refused_in_sources read (refused_as_lent is are why tells))
fault_of_sources {options = options} {told = told} (faults.Name place) read is are why tells =
    let taken : List ℕ → Type 0 = λ t. HasTakenName options.compile.profile options.prefix.text.now t place in
    taken_name read.holds (subst taken read.is (subst taken is why))
    (subst (λ (ls : List (List ℕ × ℕ)). IsTakenIn ls place told) read.lines
    (subst (λ (ls : List Library). IsTakenIn (numbered_of ls) place told) are tells))

taken_calm : (by_lines : List (List ℕ × ℕ)) (place : Place) (fault : Fault) {before after : Store}
    → IsTakenIn by_lines place fault → after ≡ before → IsReadBy fault before after
taken_calm by_lines place (Text refusal) is same = same
taken_calm by_lines place (Explained refusal lines) is same = same
taken_calm by_lines place (InLibrary path refusal) is same = same
taken_calm by_lines place (ExplainedInLibrary path refusal lines) is same = same
taken_calm by_lines place (Image why) is same = same
taken_calm by_lines place (Run why) is same = same
taken_calm by_lines place (Eval why) is same = same
taken_calm by_lines place (Plan why) is same = same
taken_calm by_lines place (Harts why) is same = same
taken_calm by_lines place (Vectors why) is same = same
taken_calm by_lines place (Code rule) is same = same
taken_calm by_lines place (Name name) is same = same
taken_calm by_lines place (Elf why) is same = same
taken_calm by_lines place (Unmet rule word) is same = same
taken_calm by_lines place (File file) is same = absurd is

-- no call of files failed then
pub fault_calm : (explain : Bool) (text : List ℕ) (by_lines : List (List ℕ × ℕ)) (fault : FunctionFault Refusal)
    (told : Fault) {before after : Store} → IsFaultIn explain text by_lines fault told → after ≡ before
    → IsReadBy told before after
fault_calm explain text by_lines (faults.Text refusal) told tells same =
    tells_in_calm text by_lines refusal explain told tells same
fault_calm explain text by_lines (faults.Name place) told is same = taken_calm by_lines place told is same
