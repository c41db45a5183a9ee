-- Programs that the frame and an image have room for.
use Rattle.std.specs.Prelude.{◌+◌, ◌*◌, ◌≤◌, length, map}
use Rattle.std.specs.List.{AllByRecursion}
use Rattle.branch_removal.specs.Bounds.{block_work}
use Rattle.codegen.specs.Below.{declaration_of, declared_words, depth_in_all, HasLength, IsTypedStraight}
use Rattle.codegen.specs.Below.{most_declared_bytes, most_nodes, most_work, Param, program_height, StraightProgram}
use Rattle.codegen.specs.Below.{value_nodes}
pub use Rattle.codegen.specs.private.Generated.{frame_of}
use Rattle.codegen.specs.private.Generated.{home_count, mirror_count}
use Rattle.codegen.specs.private.Reads.{AllReadKept}
use Rattle.expression_code.specs.Allocation.{Allocation, IsAllocation}
use Rattle.inline.specs.Limits.{most_variable_bytes}

pub record HasRoom (p : StraightProgram) : Type 0 where
  pub typed : IsTypedStraight p
  pub lengths : AllByRecursion (λ (parameter : Param). HasLength parameter.form parameter.length) p.parameters
  pub parameters : declared_words (map declaration_of p.parameters) ≤ declared_words p.declared
  pub given : 4 * declared_words (map declaration_of p.parameters) ≤ most_declared_bytes
  pub declared : 4 * declared_words p.declared ≤ most_variable_bytes
  pub nodes : p.nodes ≤ most_nodes
  pub work : p.work ≤ most_work
  pub worked : block_work p.iterations p.body + value_nodes p.value ≤ p.work
  -- the words that lie behind the variables and the result
  pub frame : p.controls + 2 * depth_in_all p.body + program_height p ≤ p.nodes

-- Homes and mirrors that a program may have: of its variables and control values, and so few that an image has room for
-- the code that fills them. And what the program reads is kept.
pub record IsFitting (p : StraightProgram) (a : Allocation) : Type 0 where
  pub allocated : IsAllocation p.declared a
  pub within : length a.homes ≤ length p.declared + p.controls
  pub few : home_count a.homes + mirror_count a.mirrors ≤ 20
  pub read : AllReadKept a.unread p.body
