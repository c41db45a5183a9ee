use Rattle.std.proofs.Common.{◌≡◌, ◌≤◌, ◌+◌, ◌++◌, ◌∷◌, [], ℕ, List, Bor, get_or, drop, length, codes, refl, ap, ◌∙◌, arith}
use Rattle.std.specs.String.{string_bytes}
use Rattle.std.proofs.lemmas.Str.{IsUtf8-string_bytes}
use Rattle.commands.specs.Sources.{no_memory}
use Rattle.language.proofs.Handed.{handed_on, converted_on}
use Rattle.commands.proofs.SourceLemmas.{all_read, bytes_of_paths, file_refused, grown, grown_last, library_refused}
use Rattle.commands.proofs.SourceLemmas.{lines_more, none_read, one_more_read, paths_all, paths_at, paths_more}
use Rattle.commands.proofs.sources.joined_text.Goals as goal

abbrev none : Bor (List ℕ)
none = record { ref_ptr = (0, 0); now = [] }

pub loop-path-init : goal.loop-path-init
loop-path-init g c =
    let empty : length (string_bytes c.new-text.result) ≡ 0 = ap length c.new-text.ensures.bytes in
    record {
      within = omega (arith, empty);
      same = refl;
      read = λ tells. none_read _ _ _ c.new-text.ensures.bytes c.new-read.ensures.items;
    }

pub loop-path-preserved : goal.loop-path-preserved
loop-path-preserved g c =
    let bytes = string_bytes c.in_ok-library.library in
    let text = string_bytes c.loop-path.text in
    let put : string_bytes c.push_str-in-loop-path.new.self ≡ (text ++ bytes) ++ 10 ∷ [] =
    c.in_ok-push_str-2.ensures.bytes
    ∙ ap (λ (t : List ℕ). t ++ codes "\n")
    (c.in_ok-push_str.ensures.bytes ∙ ap (λ (b : List ℕ). text ++ b) c.as_str-in-loop-path.ensures.value) in
    let size : c.len.result ≡ length text = c.len.ensures ∙ c.loop-path.text.bytes.ok.0 in
    record {
      within = grown text bytes _ put c.loop-path.invariant.within (rw size at c.in_ok-library.ensures.below);
      same = c.in_ok-library.ensures.calm ∙ c.loop-path.invariant.same;
      read = λ tells.
          one_more_read (get_or c.args.libraries.now c.loop-path.path-index none).now bytes
          (c.loop-path.invariant.read tells)
          (rw c.loop-path.invariant.same at (c.in_ok-library.ensures.said tells))
          (IsUtf8-string_bytes c.in_ok-library.library)
          (paths_more c.args.libraries.now c.loop-path.path-index none c.loop-path-test.true) put
          (lines_more c.loop-path.read.items c.push.new.self.items _ bytes _ c.in_ok-push.ensures.items
          c.lines_in-lines.ensures c.as_str.ensures.value);
    }

pub returns-in_err-library-clause-refused : goal.returns-in_err-library-clause-refused
returns-in_err-library-clause-refused g c = λ tells.
    let paths = c.args.libraries.now in
    let i = c.loop-path.path-index in
    let size : c.len.result ≡ length (string_bytes c.loop-path.text) = c.len.ensures ∙ c.loop-path.text.bytes.ok.0 in
    handed_on _ _ c.from_residual.ensures.1
    (library_refused (get_or paths i none).now c.args.file.now (bytes_of_paths (drop (i + 1) paths))
    (c.loop-path.invariant.read tells)
    (paths_at paths i none c.loop-path-test.true)
    (rw (c.loop-path.invariant.same, size) at (c.in_err-library.ensures.refused tells)))

pub returns-in_err-push-clause-refused : goal.returns-in_err-push-clause-refused
returns-in_err-push-clause-refused g c = λ tells.
    converted_on _ c.from_residual-in_err-push.ensures.1 (λ e memory. no_memory memory)

pub returns-in_err-push_str-clause-refused : goal.returns-in_err-push_str-clause-refused
returns-in_err-push_str-clause-refused g c = λ tells.
    converted_on _ c.from_residual-in_err-push_str.ensures.1 (λ e memory. no_memory memory)

pub returns-in_err-push_str-2-clause-refused : goal.returns-in_err-push_str-2-clause-refused
returns-in_err-push_str-2-clause-refused g c = λ tells.
    converted_on _ c.from_residual-in_err-push_str-2.ensures.1 (λ e memory. no_memory memory)

pub returns-in_err-push_str-3-clause-refused : goal.returns-in_err-push_str-3-clause-refused
returns-in_err-push_str-3-clause-refused g c = λ tells.
    converted_on _ c.from_residual-in_err-push_str-3.ensures.1 (λ e memory. no_memory memory)

pub returns-in_err-last-clause-refused : goal.returns-in_err-last-clause-refused
returns-in_err-last-clause-refused g c = λ tells.
    let end : length c.args.libraries.now ≤ c.loop-path.path-index = omega (arith, c.loop-path-test.false) in
    let size : c.len-2.result ≡ length (string_bytes c.loop-path.text) = c.len-2.ensures
    ∙ c.loop-path.text.bytes.ok.0 in
    handed_on _ _ c.from_residual-in_err-last.ensures.1
    (file_refused c.args.file.now (c.loop-path.invariant.read tells)
    (paths_all c.args.libraries.now c.loop-path.path-index end)
    (rw (c.loop-path.invariant.same, size) at (c.in_err-last.ensures.refused tells)))

pub returns-clause-said : goal.returns-clause-said
returns-clause-said g c = λ tells.
    let end : length c.args.libraries.now ≤ c.loop-path.path-index = omega (arith, c.loop-path-test.false) in
    let text = string_bytes c.loop-path.text in
    let last = string_bytes c.in_ok-last.last in
    let whole = string_bytes c.push_str-2.new.self in
    let size : c.len-2.result ≡ length text = c.len-2.ensures ∙ c.loop-path.text.bytes.ok.0 in
    let put : whole ≡ text ++ last = c.in_ok-push_str-3.ensures.bytes
    ∙ ap (λ (b : List ℕ). text ++ b) c.as_str-2.ensures.value in
    all_read c.args.file.now last whole (c.loop-path.invariant.read tells)
    (paths_all c.args.libraries.now c.loop-path.path-index end)
    (rw c.loop-path.invariant.same at (c.in_ok-last.ensures.said tells)) put (
      grown_last text last whole put c.loop-path.invariant.within (rw size at c.in_ok-last.ensures.below),
      IsUtf8-string_bytes c.push_str-2.new.self,
    )
