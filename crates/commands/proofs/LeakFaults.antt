-- A listing that was not written failed at standard output, or nothing was written.
use Rattle.std.proofs.Common.{◌≡◌, ◌≢◌, inl, inr, ℕ, List, Bor, map, refl, sym, ap, subst, ◌∙◌}
use Rattle.commands.specs.Below.{Arg, collected, Collected, Fields, IsLeak, LeakFault, one_more, params_of, Stop}
use Rattle.commands.specs.Below.{Write, Writes, WritesPart}
use Rattle.commands.specs.Contents.{Contents, Store}
use Rattle.commands.specs.Failures.{IsReadBy, IsReadOrPrinted}
use Rattle.commands.specs.Images.{HoldsImage}
use Rattle.commands.specs.Leaks.{SaysLeak, RefusesLeak, IsOutputFault, IsFaultOfLeak}
use Rattle.commands.specs.Requests.{Fails, IsDone, refused, unprinted}
use Rattle.commands.specs.Stops.{status_of}
use Rattle.commands.specs.Words.{AreSpelled}
use Rattle.command_line.specs.declared.words.Request.TheVariants as requests
use Rattle.commands.specs.declared.fault.Fault.{Fault}
use Rattle.commands.proofs.Counting.{counted_by, kept_by, not_output}
use Rattle.listing.specs.declared.fault.LeakFault.TheVariants.{Argument, Memory}

-- only a sink that failed is standard output that failed
is_write : (why : LeakFault) (fault : Fault) → IsFaultOfLeak why fault → IsOutputFault fault → why ≡ Write
is_write (Argument rule index) fault is output = let both = sym is ∙ output.2 in cc
is_write Memory fault is output = let both = sym is ∙ output.2 in cc
is_write Write fault is output = refl

-- which calls have failed, by the fault of a listing
pub leak_counts : (why : LeakFault) (fault : Fault) {before after : Store} {printed printed' : ℕ}
    → IsFaultOfLeak why fault → after ≡ before → (why ≢ Write → printed' ≡ printed)
    → (why ≡ Write → printed' ≡ one_more printed) → IsReadOrPrinted fault before after printed printed'
leak_counts (Argument rule index) fault {before} {after} is same calm counts =
    inl (subst (λ (f : Fault). IsReadBy f before after) (sym is) same, calm (λ h. cc))
leak_counts Memory fault {before} {after} is same calm counts =
    inl (subst (λ (f : Fault). IsReadBy f before after) (sym is) same, calm (λ h. cc))
leak_counts Write fault is same calm counts = inr (is, same, counts refl)

-- another fault is not that
pub not_write : (why : LeakFault) (fault : Fault) → IsFaultOfLeak why fault → (IsOutputFault fault → ⊥) → why ≢ Write
not_write why fault is other write = other (subst (λ (l : LeakFault). IsFaultOfLeak l fault) write is)

module _ {files : Contents} {path : List ℕ} {words : List (List ℕ)} {image : Fields} {args : List Arg}
    (held : HoldsImage files path image) (spelled : AreSpelled (params_of image) words args) where
  pub says_leak : (stop : Stop) (status : ℕ) (text : List ℕ) → status ≡ status_of stop → IsLeak image args stop text
      → SaysLeak files path words status text
  says_leak stop status text ended listed =
      record {
        image = image;
        args = args;
        stop = stop;
        held = held;
        spelled = spelled;
        listed = listed;
        ended = ended;
      }

  -- where the sink failed
  pub cut_leak : (before after : List ℕ)
      → WritesPart (λ bytes. (stop : Stop) × IsLeak image args stop bytes) before after
      → WritesPart (λ text. (status : ℕ) × SaysLeak files path words status text) before after
  cut_leak before after w = record {
    bytes = w.bytes;
    such = (status_of w.such.0, says_leak w.such.0 (status_of w.such.0) w.bytes refl w.such.1);
    part = w.part;
  }

  pub cut_at_output : (why : LeakFault) (fault : Fault) (before after : List ℕ) → IsFaultOfLeak why fault
      → IsOutputFault fault
      → (why ≡ Write → WritesPart (λ bytes. (stop : Stop) × IsLeak image args stop bytes) before after)
      → WritesPart (λ text. (status : ℕ) × SaysLeak files path words status text) before after
  cut_at_output why fault before after is output part = cut_leak before after (part (is_write why fault is output))

-- a listing that is written to its end
pub lists : (path : Bor (List ℕ)) (arguments : Bor (List (Bor (List ℕ)))) {image : Fields} {args : List Arg}
    {before after : Store} {taken taken' : List ℕ} {failures failures' : ℕ} → HoldsImage before.contents path.now image
    → AreSpelled (params_of image) (map (λ word. word.now) arguments.now) args → (stop : Stop) (status : ℕ)
    → status ≡ status_of stop → Writes (IsLeak image args stop) taken taken' → failures' ≡ failures → after ≡ before
    → IsDone (requests.Leak path arguments) before after (collected taken failures) (collected taken' failures') status
lists path arguments held spelled stop status ended w calm same = record {
  text = w.bytes;
  answered = says_leak held spelled stop status w.bytes ended w.such;
  left = ap (λ (s : Store). s.contents) same;
  calm = ap (λ (s : Store). s.failures) same;
  printed = (w.added, calm);
}

-- one that is not: standard output failed, or it is as it was
pub fails_to_list : {S : Type 0} (view : S → Collected) (path : Bor (List ℕ)) (arguments : Bor (List (Bor (List ℕ))))
    (before after : Store) (s s' : S) (fault : Fault)
    → RefusesLeak before.contents path.now (map (λ word. word.now) arguments.now) fault
    → (IsOutputFault fault → WritesPart (λ text. (status : ℕ)
    × SaysLeak before.contents path.now (map (λ word. word.now) arguments.now) status text) (view s).bytes
    (view s').bytes)
    → ((IsOutputFault fault → ⊥) → s' ≡ s)
    → IsReadOrPrinted fault before after (view s).failures (view s').failures
    → Fails (requests.Leak path arguments) before after (view s) (view s') fault
fails_to_list view path arguments before after s s' fault why part kept (inl (read, printed)) =
    refused (why, kept_by fault before after read) (counted_by fault before after read)
    (ap view (kept (not_output fault before after read)))
fails_to_list view path arguments before after s s' fault why part kept (inr (output, left, failed)) =
    let some = part output in
    unprinted some.such.0 some.such.1 (ap (λ (f : Store). f.contents) left) (ap (λ (f : Store). f.failures) left)
    (some.part, failed) output
