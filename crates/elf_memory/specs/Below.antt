-- What is taken from the crates below.
pub use Rattle.rv_machine.specs.Bytes.{ByteMap}
pub use Rattle.rv_machine.specs.Flat.{loaded_bytes}
pub use Rattle.rv_machine.specs.Paged.{first_of, lies_in, paged_bytes}
pub use Rattle.rv_machine.specs.Stops.{stop_name as machine_stop_name}
pub use Rattle.rv_machine.specs.declared.stops.Stop.{Stop}
pub use Rattle.rv_machine.specs.declared.stops.Stop.TheVariants.{AccessFault}
pub use Rattle.rv_programs.specs.Loaded.{lies_within}
pub use Rattle.elf.specs.Layout.{AreApart, IsWithin}
pub use Rattle.elf.specs.Lookup.{address_named, object_named}
pub use Rattle.elf.specs.Reading.{Executable}
pub use Rattle.elf.specs.Segments.{LoadedSegment}
pub use Rattle.elf.specs.declared.symbol.Object.{Object}
pub use Rattle.elf.specs.declared.segment.Access.{Access}
