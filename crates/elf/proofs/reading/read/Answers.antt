use Rattle.std.proofs.Common.{◌∙◌, ap}
use Rattle.elf.specs.Symbols.{symbols_of}
use Rattle.elf.proofs.Apart.{checked_apart}
use Rattle.elf.proofs.Answering.{accepted, header_refused, segment_refused, symbol_refused}
use Rattle.elf.proofs.reading.read.Goals as goal

pub returns-in_err-check_header : goal.returns-in_err-check_header
returns-in_err-check_header c =
    header_refused c.from_residual.result c.in_err-check_header.field-0.0 c.args.bytes.now c.from_residual.ensures.1
    c.in_err-check_header.ensures

pub returns-in_err-segments : goal.returns-in_err-segments
returns-in_err-segments c =
    segment_refused c.from_residual-in_err-segments.result c.in_err-segments.field-0.0 c.args.bytes.now
    c.from_residual-in_err-segments.ensures.1 c.in_ok-check_header.ensures c.in_err-segments.ensures.fault

pub returns-in_err-table : goal.returns-in_err-table
returns-in_err-table c =
    symbol_refused c.from_residual-in_err-table.result c.in_err-table.field-0.0 c.args.bytes.now
    c.from_residual-in_err-table.ensures.1 c.in_ok-check_header.ensures c.in_ok-segments.ensures.passed
    c.in_err-table.ensures.checks

pub returns : goal.returns
returns c =
    accepted c.new.result c.args.bytes.now c.in_ok-check_header.ensures c.in_ok-segments.ensures.passed
    c.in_ok-table.ensures.checks (c.new.ensures.entry ∙ c.entry_of.ensures)
    (c.new.ensures.compressed ∙ c.is_compressed.ensures)
    (c.new.ensures.segments ∙ c.in_ok-segments.ensures.segments)
    (c.new.ensures.symbols ∙ ap symbols_of c.in_ok-table.ensures.symbols)
    (c.new.ensures.strings ∙ c.in_ok-table.ensures.strings)

pub new-requires : goal.new-requires
new-requires c =
    rw c.in_ok-segments.ensures.segments (checked_apart c.args.bytes.now c.in_ok-segments.ensures.passed)
