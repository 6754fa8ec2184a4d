-- `sieve::sieve` meets its contract: what is found over the node is what the walk goes on with. Assumes nothing.
use mathlib.Core.Path.{refl, ◌∙◌}
use native.Mathlib.Omega.{arith}
use Rattle.residues.specs.children.Residues.{with_residue}
use Rattle.residues.proofs.laws.Held.{from_empty}
use Rattle.residues.proofs.laws.of_children.Numbers.{as_few, as_many}
use Rattle.words.specs.laws.Blank.{zero_length}
use Rattle.sieve.specs.laws.Marks.{sieved_of}
use Rattle.residues.specs.Room.{search_room}
use Rattle.sieve.proofs.sieve.Goals as goal

pub slice_bounds-flag_before-end : goal.slice_bounds-flag_before-end
slice_bounds-flag_before-end c = refl

pub flag_before-requires : goal.flag_before-requires
flag_before-requires c =
    let S = c.requires in
    (omega (arith, S.alike, S.begin), omega (arith, S.alike, S.few), refl)

pub with_residue-s-requires : goal.with_residue-s-requires
with_residue-s-requires c = (c.empty.ensures.valid, c.requires.alike)

pub find-requires : goal.find-requires
find-requires c =
    let S = c.requires in
    let a = c.args in
    record {
      at = record {
        sizes = record {
          alike = S.alike;
          over = S.alike;
          few = as_few S.alike S.few;
          begin = as_many S.alike S.begin;
          gone_all = c.flag_before.ensures.whole;
          marks_all = zero_length search_room a.marks.now S.blank;
        };
        held = from_empty (with_residue 0 a.gens.now a.h.now) c.empty.result
            c.with_residue-s.result c.empty.ensures c.with_residue-s.ensures;
      };
      some = S.some;
      most = S.most;
      rows_all = S.rows_all;
    }

pub shape_of-rows : goal.shape_of-rows
shape_of-rows c = c.find.auto.rows

pub shape_of-marks : goal.shape_of-marks
shape_of-marks c = c.find.auto.marks

pub returns : goal.returns
returns c =
    let S = c.requires in
    let a = c.args in
    let f = c.find in
    sieved_of a.gens.now a.h.now a.start a.k a.missing c.flag_before.new.flags a.marks.now
    f.new.marks S.some
    c.flag_before.ensures S.blank (f.auto.marks ∙ zero_length search_room a.marks.now S.blank) f.ensures
