-- What is found from a node is what its sieve leaves.
--   blank_fair   no marks are fair
--   sieved_of    where every space over the node is met that has no new generator before start, an unmarked number is barren
-- Assumes nothing.
use Rattle.std.specs.Prelude.{◌≡◌, ◌≢◌, List, ℕ, length, replicate}
use Rattle.std.proofs.Common.{inr}
use Rattle.residues.specs.children.Found.{Fair, Found}
use Rattle.words.specs.laws.Blank.{zero_at}
use Rattle.residues.proofs.laws.of_children.Found.{met_barren}
use Rattle.sieve.specs.dead_numbers.Dead.{FlaggedBefore}
use Rattle.sieve.specs.Sieve.{Sieved}
use Rattle.residues.specs.Room.{search_room}

pub blank_fair : (h marks : List ℕ) → marks ≡ replicate search_room 0 → Fair h marks
blank_fair h marks e = record { on = λ j n. absurd (n (zero_at search_room marks e j)) }

pub sieved_of : (gens h : List ℕ) (start k missing : ℕ) (dead marks marks' : List ℕ) → missing ≢ 0 → FlaggedBefore h start dead
    → marks ≡ replicate search_room 0 → length marks' ≡ search_room
    → Found gens h h start k missing dead marks marks' → Sieved gens h start (length gens) k missing marks'
sieved_of gens h start k missing dead marks marks' ne D e w F =
    record {
      whole = w;
      judged = λ j a l. record {
        off = λ z. inr (met_barren gens h start j k missing dead marks' a l ne D.only F.met z);
        on = (F.fair
            (blank_fair h marks e)).on j;
      };
    }
