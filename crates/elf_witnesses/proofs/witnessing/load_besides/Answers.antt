-- The function is loaded as the request asks with more that is set.
use Rattle.std.proofs.Common.{◌≡◌, append-nil, arith, drop, length, refl, sym, take, ◌∙◌, ap, ap₂}
use Rattle.std.proofs.Math.Seq.{drop-append_seam, take-append_seam}
use Rattle.std.proofs.lemmas.Result.{err_from_is_err_and}
use Rattle.elf_memory.specs.declared.asked.Asked.{Asked}
use Rattle.elf_witnesses.specs.Below.{KnownState}
use Rattle.elf_witnesses.specs.Witnessed.{SetsBesides}
use Rattle.elf_witnesses.proofs.Found.{memory_alone}
use Rattle.elf_witnesses.proofs.MoreSet.{met_besides}
use Rattle.elf_witnesses.proofs.witnessing.load_besides.Goals as goal

pub returns-in_err-loaded-clause-fault : goal.returns-in_err-loaded-clause-fault
returns-in_err-loaded-clause-fault c =
    let asked = c.args.asked.now in
    let besides : Asked = record asked { settings = c.append.new.self } in
    let sets : SetsBesides asked c.args.more.now.items besides =
    record {
      function = refl;
      arguments = refl;
      secrets = refl;
      settings = c.in_ok-append.ensures.items;
      stack = refl;
    } in
    let p = err_from_is_err_and c.from_residual-in_err-loaded.result c.from_residual-in_err-loaded.ensures.1 in
    let met = met_besides c.args.program.now asked besides c.args.more.now.items sets c.requires.each c.requires.met in
    rw p.1 (p.2 ∙ memory_alone c.args.program.now besides c.in_err-loaded.field-0.0 met c.in_err-loaded.ensures.fault)

pub returns-clause-loaded : goal.returns-clause-loaded
returns-clause-loaded c =
    let asked = c.args.asked.now in (
      record asked { settings = c.append.new.self },
      record {
        function = refl;
        arguments = refl;
        secrets = refl;
        settings = c.in_ok-append.ensures.items;
        stack = refl;
      },
      record {
        met = c.in_ok-loaded.ensures.met;
        program_is = c.in_ok-loaded.ensures.program;
        state = ap (λ (k : KnownState). k.state) c.in_ok-loaded.ensures.known;
        steps = c.in_ok-loaded.ensures.steps;
      },
    )

pub returns-clause-asked : goal.returns-clause-asked
returns-clause-asked c =
    let settings = c.args.asked.now.settings in
    let count : c.len-set.result ≡ length settings.items = omega (arith, c.len-set.ensures, settings.ok.0) in
    record {
      function = refl;
      arguments = refl;
      secrets = refl;
      settings =
          c.in_ok-more.ensures.items ∙ ap₂ (λ n items. take n items) count c.in_ok-append.ensures.items
          ∙ take-append_seam settings.items c.args.more.now.items ∙ sym (append-nil settings.items);
      stack = refl;
    }

pub returns-clause-more : goal.returns-clause-more
returns-clause-more c =
    let settings = c.args.asked.now.settings in
    let count : c.len-set.result ≡ length settings.items = omega (arith, c.len-set.ensures, settings.ok.0) in
    c.in_ok-more.ensures.tail ∙ ap₂ (λ n items. drop n items) count c.in_ok-append.ensures.items
    ∙ drop-append_seam settings.items c.args.more.now.items
