-- Two with the same key among many, and the lists of at most two numbers. Their laws are in proofs/laws/Clash.
--   Clash key L        == two members of L, one behind the other, have the same key
--   Twins key f lo hi es == two of the rising numbers es whose images under f have the same key
--   near es            == the lists of at most two of the numbers es, as many as `near_count` says; Near lo hi es b == what such a list b of rising numbers is
-- Assumes nothing.
use Rattle.std.specs.Prelude.{◌≡◌, ◌⊎◌, ℕ, ◌<◌, ◌≤◌, length}
use mathlib.Core.List.Memᴰ
use mathlib.Core.List.{List, [], ◌∷◌, ◌++◌, map, Memᴰ}
use Rattle.linear.specs.Order.{Rising}

-- ---- two with the same key
abbrev pub Clash : {A B : Type 0} → (A → B) → List A → Type 0
Clash key [] = ⊥
Clash {A} key (a ∷ L) = ((b : A) × Memᴰ b L × (key a ≡ key b)) ⊎ Clash key L

-- two of rising numbers, the smaller first, of which the images have the same key
pub record Twins {A B : Type 0} (key : A → B) (f : ℕ → A) (lo hi : ℕ) (es : List ℕ) : Type 0 where
  pub one : ℕ
  pub other : ℕ
  pub from : lo ≤ one
  pub less : one < other
  pub below : other < hi
  pub one_in : Memᴰ one es
  pub other_in : Memᴰ other es
  pub same : key (f one) ≡ key (f other)

-- ---- the lists of at most two numbers
unfoldable pub near : List ℕ → List (List ℕ)
near [] = [] ∷ []
near (e ∷ es) = (e ∷ []) ∷ (map (λ f. e ∷ f ∷ []) es ++ near es)

pub record Near (lo hi : ℕ) (es b : List ℕ) : Type 0 where
  pub rising : Rising lo hi b
  pub own : (x : ℕ) → Memᴰ x b → Memᴰ x es
  pub few : length b ≤ 2
