-- Keys of requests.
use Rattle.std.specs.Prelude.{◌≡◌, ◌≢◌, ℕ, suc, Bool, ◌==◌, List, [], ◌∷◌, if◌then◌else◌, Option, None, Some, slice_index_or}

-- a list without the first that passes a test
abbrev pub cut_first : {X : Type 0} → (X → Bool) → List X → List X
cut_first p [] = []
cut_first p (x ∷ xs) = if p x then xs else x ∷ cut_first p xs

-- how many keys stand before a key, all of them where it isn't there
abbrev pub place_of : ℕ → List ℕ → ℕ
place_of key [] = 0
place_of key (next ∷ keys) = if next == key then 0 else suc (place_of key keys)

-- the first of some keys
abbrev pub first_key : List ℕ → Option ℕ
first_key [] = None
first_key (key ∷ keys) = Some key

-- the keys of a client, where each client up to one has a list of them
abbrev pub keys_of : ℕ → List (List ℕ) → List ℕ
keys_of client lists = slice_index_or lists client []

-- each client has the same keys
abbrev pub SameKeys : List (List ℕ) → List (List ℕ) → Type 0
SameKeys old new = (client : ℕ) → keys_of client new ≡ keys_of client old

-- a client has these keys, and each other has the same
pub record OnlyOf (client : ℕ) (keys : List ℕ) (old new : List (List ℕ)) : Type 0 where
  pub own : keys_of client new ≡ keys
  pub others : (other : ℕ) → other ≢ client → keys_of other new ≡ keys_of other old
