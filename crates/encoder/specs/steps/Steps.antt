-- Steps that add turned copies of one row to another row, and the lists of steps that solve for the parity of a code.
-- These numbers are derived from the parity tables, not published; that they solve is computed in proofs/Facts.
use Rattle.std.specs.Prelude.{Bool, ◌&&◌, List, [], ◌∷◌, ℕ, zero, suc, ◌+◌, ◌*◌, ◌%◌, eqb, ltb, get_or, drop}
use Rattle.bits.specs.Bits.{Word, ◌⊕◌, over, when◌then◌else◌}
use Rattle.rules.specs.Codes.{Code}
use Rattle.rules.specs.Checks.{check}

-- A step has ten places: the row that is added to, the row whose turned copies are added, and the shifts; a number that is M or more ends
-- them.
abbrev pub filled : ℕ → List ℕ → List ℕ
filled zero shifts = []
filled (suc n) [] = 65535 ∷ filled n []
filled (suc n) (s ∷ shifts) = s ∷ filled n shifts

abbrev pub step_of : ℕ → ℕ → List ℕ → List ℕ
step_of target source shifts = target ∷ source ∷ filled 8 shifts

abbrev pub target : List ℕ → ℕ
target step = get_or step 0 0

abbrev pub source : List ℕ → ℕ
source step = get_or step 1 0

-- Both are rows of the R there are.
abbrev pub rows_in : ℕ → List ℕ → Bool
rows_in R step = ltb (target step) R && ltb (source step) R

abbrev pub ended : ℕ → List ℕ → List ℕ
ended M [] = []
ended M (s ∷ places) = when ltb s M then s ∷ ended M places else []

abbrev pub shifts : ℕ → List ℕ → List ℕ
shifts M step = ended M (drop 2 step)

-- What one step makes of rows of M bits: a copy turned by s has bit (i + s) mod M of the source at place i.
unfoldable pub stepped : ℕ → List ℕ → (ℕ → Word) → ℕ → Word
stepped M step rows r i = rows r i ⊕ (eqb r (target step) && over (shifts M step) (λ s. rows (source step) ((i + s) % M)))

-- The rows after the first n steps of a list.
unfoldable pub walked : ℕ → List (List ℕ) → ℕ → (ℕ → Word) → ℕ → Word
walked M steps zero rows = rows
walked M steps (suc n) rows = stepped M (get_or steps n []) (walked M steps n rows)

-- The rows start as the checks of a word whose parity is 0, a row for each block row.
abbrev pub check_rows : Code → Word → ℕ → Word
check_rows c x r i = check c x (r * c.size + i)

-- M = 16, table 2-4 of document 001. Parity block a ends in row (a + 1) mod 4, here and in the next two.
abbrev pub steps16 : List (List ℕ)
steps16 =
    step_of 3 2 (1 ∷ []) ∷
    step_of 3 1 (12 ∷ 14 ∷ []) ∷
    step_of 0 2 (0 ∷ []) ∷
    step_of 0 1 (11 ∷ []) ∷
    step_of 0 0 (12 ∷ 14 ∷ []) ∷
    step_of 0 3 (11 ∷ 13 ∷ []) ∷
    step_of 0 0 (10 ∷ 15 ∷ []) ∷
    step_of 0 0 (7 ∷ 12 ∷ 14 ∷ 15 ∷ []) ∷
    step_of 3 0 (3 ∷ 4 ∷ 5 ∷ []) ∷
    step_of 3 3 (12 ∷ 14 ∷ []) ∷
    step_of 3 3 (4 ∷ 8 ∷ []) ∷
    step_of 1 3 (0 ∷ []) ∷
    step_of 1 0 (7 ∷ []) ∷
    step_of 2 1 (11 ∷ []) ∷
    step_of 2 0 (3 ∷ []) ∷ []

-- M = 32, table 2-5.
abbrev pub steps32 : List (List ℕ)
steps32 =
    step_of 3 2 (26 ∷ []) ∷
    step_of 3 1 (23 ∷ 25 ∷ []) ∷
    step_of 0 2 (20 ∷ []) ∷
    step_of 0 1 (17 ∷ []) ∷
    step_of 0 0 (2 ∷ 8 ∷ []) ∷
    step_of 0 3 (20 ∷ 26 ∷ []) ∷
    step_of 0 0 (8 ∷ 13 ∷ 29 ∷ 31 ∷ []) ∷
    step_of 0 0 (5 ∷ 6 ∷ 9 ∷ 15 ∷ []) ∷
    step_of 3 0 (11 ∷ 13 ∷ 15 ∷ []) ∷
    step_of 3 3 (2 ∷ 8 ∷ []) ∷
    step_of 3 3 (4 ∷ 16 ∷ []) ∷
    step_of 1 3 (1 ∷ []) ∷
    step_of 1 0 (20 ∷ []) ∷
    step_of 2 1 (29 ∷ []) ∷
    step_of 2 0 (21 ∷ []) ∷ []

-- M = 64, table 2-6.
abbrev pub steps64 : List (List ℕ)
steps64 =
    step_of 3 2 (3 ∷ []) ∷
    step_of 3 1 (58 ∷ 59 ∷ []) ∷
    step_of 0 2 (43 ∷ []) ∷
    step_of 0 1 (35 ∷ []) ∷
    step_of 0 0 (31 ∷ 32 ∷ []) ∷
    step_of 0 3 (8 ∷ 62 ∷ []) ∷
    step_of 0 0 (24 ∷ 51 ∷ []) ∷
    step_of 0 0 (15 ∷ 19 ∷ 36 ∷ 49 ∷ []) ∷
    step_of 0 0 (5 ∷ 22 ∷ 37 ∷ 46 ∷ 48 ∷ 51 ∷ 56 ∷ 59 ∷ []) ∷
    step_of 3 0 (20 ∷ 21 ∷ 46 ∷ []) ∷
    step_of 3 3 (0 ∷ 2 ∷ 33 ∷ 34 ∷ []) ∷
    step_of 1 3 (37 ∷ []) ∷
    step_of 1 0 (26 ∷ []) ∷
    step_of 2 1 (56 ∷ []) ∷
    step_of 2 0 (43 ∷ []) ∷ []

-- M = 511, table 1 of document 000. Parity block a ends in row a, perhaps with every bit the other way.
abbrev pub steps511 : List (List ℕ)
steps511 =
    step_of 1 1 (247 ∷ []) ∷
    step_of 1 0 (51 ∷ 382 ∷ []) ∷
    step_of 1 1 (61 ∷ 151 ∷ 187 ∷ 204 ∷ 212 ∷ 254 ∷ 271 ∷ []) ∷
    step_of 1 1 (72 ∷ 106 ∷ 122 ∷ 206 ∷ 209 ∷ 240 ∷ 331 ∷ []) ∷
    step_of 1 1 (31 ∷ 175 ∷ 182 ∷ 243 ∷ 275 ∷ 443 ∷ 449 ∷ []) ∷
    step_of 1 1 (39 ∷ 62 ∷ 350 ∷ 364 ∷ 375 ∷ 387 ∷ 486 ∷ []) ∷
    step_of 1 1 (78 ∷ 124 ∷ 189 ∷ 217 ∷ 239 ∷ 263 ∷ 461 ∷ []) ∷
    step_of 1 1 (33 ∷ 48 ∷ 189 ∷ 281 ∷ 411 ∷ 444 ∷ 467 ∷ []) ∷
    step_of 1 1 (88 ∷ 139 ∷ 154 ∷ 184 ∷ 399 ∷ 465 ∷ 466 ∷ []) ∷
    step_of 1 1 (102 ∷ 111 ∷ 132 ∷ 192 ∷ 243 ∷ 245 ∷ 335 ∷ []) ∷
    step_of 0 1 (36 ∷ 261 ∷ []) ∷
    step_of 0 0 (460 ∷ 477 ∷ 494 ∷ []) ∷
    step_of 0 0 (307 ∷ 375 ∷ 443 ∷ []) ∷
    step_of 0 0 (206 ∷ 239 ∷ 478 ∷ []) ∷
    step_of 0 0 (313 ∷ 379 ∷ 445 ∷ []) ∷ []
