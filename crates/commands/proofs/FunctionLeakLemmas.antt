-- A listing of a function's run that was written, and one that was not.
use Rattle.std.proofs.Common.{◌≡◌, Bor, ℕ, List, Result, Ok, Err, ap, subst, sym, refl}
use Rattle.std.specs.Result.{IsErrAnd}
use Rattle.commands.specs.Answered.{Does, IsEnded}
use Rattle.commands.specs.Below.{AskedRun, AskedWords, AsksFor, collected, Collected, Executable, FunctionLeakFault}
use Rattle.commands.specs.Below.{FunctionStop, IsFunctionLeak, LeaksFunction, needs, one_more, RunOptions, StartFault}
use Rattle.commands.specs.Below.{Writes, WritesPart}
use Rattle.commands.specs.Contents.{Contents, Store}
use Rattle.commands.specs.Executables.{HoldsExecutable}
use Rattle.commands.specs.Failures.{CountsFailures, IsReadBy}
use Rattle.commands.specs.FunctionLeaks.{observed_run, SaysFunctionLeak}
use Rattle.commands.specs.FunctionRunRefusals.{RefusesFunctionRun}
use Rattle.commands.specs.Leaks.{IsOutputFault}
use Rattle.commands.specs.Requests.{Fails, IsDone, refused, unprinted}
use Rattle.commands.specs.Stops.{function_stop_status}
use Rattle.command_line.specs.declared.options.ObservedOptions.{ObservedOptions}
use Rattle.command_line.specs.declared.words.Request.{Request}
use Rattle.command_line.specs.declared.words.Request.TheVariants as requests
use Rattle.commands.specs.declared.fault.Fault.{Fault}
use Rattle.commands.proofs.Counting.{counted_by, kept_by}
use Rattle.elf_reports.specs.Leaked as leaked
use Rattle.elf_reports.specs.declared.leaking.FunctionLeakFault.TheVariants.{Start}
use Rattle.elf_runs.specs.Needs.{IsTold}

-- a call that fails by one of such faults

pub does_refused : {request : Request} {before after : Store} {out out' : Collected} {Such : Fault → Type 0}
    (answer : Result ℕ Fault) → IsErrAnd answer Such
    → ((e : Fault) → Such e → Fails request before after out out' e) → Does request before after out out' answer
does_refused (Ok done) is why = absurd is
does_refused (Err e) is why = why e is

pub ends_refused : {before after printed printed' : ℕ} {Such : Fault → Type 0} (answer : Result ℕ Fault)
    → IsErrAnd answer Such → ((e : Fault) → Such e → CountsFailures before after printed printed' e)
    → IsEnded answer before after printed printed'
ends_refused (Ok done) is why = absurd is
ends_refused (Err e) is why = why e is

-- why a run did not begin
pub told_of : (program : Executable) (asked : AskedRun) (options : RunOptions)
    (answer : Result FunctionStop FunctionLeakFault) (fault : StartFault) → LeaksFunction program asked options answer
    → answer ≡ Err (Start fault) → IsTold fault (needs program asked)
told_of program asked options answer fault (leaked.refused {fault = one} told) is =
    let same : one ≡ fault = cc in
    subst (λ (why : StartFault). IsTold why (needs program asked)) same told
told_of program asked options answer fault (leaked.cut_off met) is = cc
told_of program asked options answer fault (leaked.ran met ends) is = cc

module _ (file : Bor (List ℕ)) (words : AskedWords) (options : ObservedOptions) where
  -- nothing was written
  pub fails_function : (before after : Store) (out out' : Collected) (fault : Fault)
      → RefusesFunctionRun before.contents file.now words fault → IsReadBy fault before after → out' ≡ out
      → Fails (requests.ElfLeak file words options) before after out out' fault
  fails_function before after out out' fault why read same =
      refused (why, kept_by fault before after read) (counted_by fault before after read) same

  module _ {files : Contents} {program : Executable} {asked : AskedRun} (run : RunOptions)
      (held : HoldsExecutable files file.now program) (as_said : AsksFor words asked)
      (as_asked : run ≡ observed_run options) where
    says_listing : (stop : FunctionStop) (text : List ℕ) → IsFunctionLeak program asked run stop text
        → SaysFunctionLeak files file.now words options text (function_stop_status stop)
    says_listing stop text listed =
        record {
          program = program;
          asked = asked;
          stop = stop;
          held = held;
          as_said = as_said;
          listed = subst (λ (how : RunOptions). IsFunctionLeak program asked how stop text) as_asked listed;
          ended = refl;
        }

  -- all of it was
  pub lists_function : {before after : Store} {program : Executable} {asked : AskedRun} {taken taken' : List ℕ}
      {failures failures' : ℕ} (run : RunOptions) → HoldsExecutable before.contents file.now program
      → AsksFor words asked → run ≡ observed_run options → (stop : FunctionStop) (status : ℕ)
      → status ≡ function_stop_status stop → Writes (IsFunctionLeak program asked run stop) taken taken'
      → failures' ≡ failures → after ≡ before
      → IsDone (requests.ElfLeak file words options) before after (collected taken failures)
      (collected taken' failures') status
  lists_function {before} run held as_said as_asked stop status ended w calm same = record {
    text = w.bytes;
    answered = subst (λ n. SaysFunctionLeak before.contents file.now words options w.bytes n) (sym ended)
        (says_listing run held as_said as_asked stop w.bytes w.such);
    left = ap (λ (s : Store). s.contents) same;
    calm = ap (λ (s : Store). s.failures) same;
    printed = (w.added, calm);
  }

  -- a beginning of it was
  pub cuts_function : {before after : Store} {program : Executable} {asked : AskedRun} {taken taken' : List ℕ}
      {failures failures' : ℕ} (run : RunOptions) → HoldsExecutable before.contents file.now program
      → AsksFor words asked → run ≡ observed_run options → (fault : Fault) → IsOutputFault fault
      → WritesPart (λ bytes. (stop : FunctionStop) × IsFunctionLeak program asked run stop bytes) taken taken'
      → failures' ≡ one_more failures → after ≡ before
      → Fails (requests.ElfLeak file words options) before after (collected taken failures)
      (collected taken' failures') fault
  cuts_function run held as_said as_asked fault output w counts same =
      let stop = w.such.0 in
      unprinted (function_stop_status stop) (says_listing run held as_said as_asked stop w.bytes w.such.1)
      (ap (λ (s : Store). s.contents) same) (ap (λ (s : Store). s.failures) same) (w.part, counts) output
