use Rattle.std.proofs.Common.{ℕ, List, Bor, Some, Err, map, sym, ap, ◌∙◌, refl, subst}
use Rattle.std.proofs.lemmas.Str.{IsUtf8-string_bytes}
use Rattle.std.specs.String.{string_bytes}
use Rattle.commands.specs.Answered.{not_answered}
use Rattle.commands.specs.Below.{numbered_of}
use Rattle.commands.specs.Costs.{no_source}
use Rattle.commands.specs.FileTexts.{HoldsText}
use Rattle.commands.specs.Judged.{no_sources}
use Rattle.commands.specs.Sources.{IsReadFrom}
use Rattle.image_reports.specs.declared.source_places.Library.{Library}
use Rattle.commands.proofs.MeasuringLemmas.{alone_read, alone_unread, cut_shorter, no_paths, other_held, source_measured}
use Rattle.commands.proofs.measuring.source_costs.Goals as goal

pub returns-in-Err-clause-finds : goal.returns-in-Err-clause-finds
returns-in-Err-clause-finds c = λ files libraries none begun other.
    not_answered (
      no_source (λ is. other_held files c.args.file.now c.args.bytes.items begun other)
          (no_sources (alone_unread (no_paths none) (c.text_fault.ensures.fault files begun.whole begun.held
          (c.in-Err.ensures.fault begun.whole (cut_shorter begun.whole _ _ begun.begun c.truncate.ensures.items))))),
      refl,
    )

pub returns-clause-finds : goal.returns-clause-finds
returns-clause-finds c = λ files libraries none begun other.
    let all = c.in-Ok.ensures.whole begun.whole (cut_shorter begun.whole _ _ begun.begun c.truncate.ensures.items) in
    let text : HoldsText files c.args.file.now (string_bytes c.in-Ok.text) =
    record {
      held = begun.held ∙ ap Some (sym all);
      is_text =
          (c.in-Ok.ensures.within, IsUtf8-string_bytes c.in-Ok.text);
    } in
    source_measured c.new.result.items c.joined_costs.result
    (λ is. other_held files c.args.file.now c.args.bytes.items begun other)
    (subst (λ (read : List Library). IsReadFrom files (map (λ (path : Bor (List ℕ)). path.now) libraries.now)
    c.args.file.now (string_bytes c.in-Ok.text) (numbered_of read)) (sym c.new.ensures.items)
    (alone_read (no_paths none) text))
    c.joined_costs.ensures.said c.joined_costs.ensures.refused

pub returns-in-Err-clause-read : goal.returns-in-Err-clause-read
returns-in-Err-clause-read c = λ files.
    c.text_fault.ensures.calm files (λ is. c.in-Err.ensures.unread (ap Err is))
    (λ is. c.in-Err.ensures.unwritten (ap Err is))
