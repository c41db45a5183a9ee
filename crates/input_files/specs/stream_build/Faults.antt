-- Which bytes are a text, and which fault is answered to bytes that are not built. Length is asked first, then UTF-8,
-- then the text.
use Rattle.std.specs.Prelude.{◌≡◌, ◌⊎◌, ℕ, ◌<◌, ◌≤◌, List, length, Some, ⊤}
use Rattle.std.specs.Str.{IsUtf8}
use Rattle.std.specs.String.{string_bytes}
use Rattle.input_files.specs.Below.{IsRefusalOf, IsWantOfMemory, Profile, Refusal, source_limit, TextTooLong}
use Rattle.language.specs.declared.why.Why.TheVariants.{Plain}
use Rattle.word.specs.Places.{origin}
use Rattle.input_files.specs.declared.stream_build.fault.BuildFault.{BuildFault}
use Rattle.input_files.specs.declared.stream_build.fault.BuildFault.TheVariants.{Read, NotUtf8, Refused, Write}
use Rattle.input_files.specs.declared.stream_build.fault.Unbuilt.{Unbuilt}
use Rattle.input_files.specs.declared.stream_build.fault.Unbuilt.TheVariants.{Unread, NotAccepted, Unwritten}

-- the bytes are a text that is not too long
abbrev pub IsText : List ℕ → Type 0
IsText bytes = (length bytes ≤ source_limit) × IsUtf8 bytes

-- the refusal of a text that is too long
abbrev pub IsTooLong : List ℕ → Refusal → Type 0
IsTooLong bytes refusal = (source_limit < length bytes) × (refusal.rule ≡ TextTooLong) × (refusal.place ≡ Some origin)
    × (refusal.why ≡ Plain)

-- why a source's bytes are not had as a text; that a call of it failed, its count of failures says
abbrev pub NoText : List ℕ → BuildFault Refusal → Type 0
NoText bytes Read = ⊤
NoText bytes NotUtf8 = (length bytes ≤ source_limit) × ¬ IsUtf8 bytes
NoText bytes (Refused refusal) = IsWantOfMemory refusal.rule refusal.place ⊎ IsTooLong bytes refusal
NoText bytes Write = ⊥

-- why a source's bytes are not built to a sink, for an observer: they are not had as a text, or are one that is
-- refused, or whose image is not all written
abbrev pub IsFaultOf : Profile → List ℕ → BuildFault Refusal → Type 0
IsFaultOf profile bytes Read = ⊤
IsFaultOf profile bytes NotUtf8 = NoText bytes NotUtf8
IsFaultOf profile bytes (Refused refusal) = NoText bytes (Refused refusal)
    ⊎ (IsText bytes × IsRefusalOf profile bytes refusal)
IsFaultOf profile bytes Write = IsText bytes

-- the same, where a refused text is handed out with its refusal
abbrev pub IsUnbuilt : Profile → List ℕ → Unbuilt Refusal → Type 0
IsUnbuilt profile bytes (Unread fault) = NoText bytes fault
IsUnbuilt profile bytes (NotAccepted refusal text) = (string_bytes text ≡ bytes) × IsText bytes
    × IsRefusalOf profile bytes refusal
IsUnbuilt profile bytes Unwritten = IsText bytes
