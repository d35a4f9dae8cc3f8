-- The log of a recording that is read part after part: what each part adds, and that together they are the log of the whole.
use mathlib.Core.Path.{◌≡◌, refl, sym, ap, ap₂, subst, ◌∙◌}
use mathlib.Core.Bool.{Bool, true, false, not, ◌||◌}
use mathlib.Core.List.{List, [], ◌∷◌, ◌++◌, append-nil, append_assoc}
use Prim.Native.Nat.{ℕ, ◌+◌, ◌-◌, ◌*◌, ◌/◌, ◌%◌, ◌^◌, ◌≤◌, ◌<◌}
use native.Mathlib.Nat.{zero-add, add-zero, add_assoc, div-add-mod', mul-add-div_right, div-eq_of_lt, div-le_self, add-mod, zero-mod}
use native.Mathlib.Omega.{arith}
use lib.Dec.{T, ltb}
use lib.ListN.{length, length-append, drop_of_length-le}
use borrow.Author.Tests.{ltb-false, le-ltb, not-false}
use Rattle.bits.specs.Bits.{when◌then◌else◌}
use Rattle.rules.specs.Codes.{code, offered}
use Rattle.answers.specs.Calls.{refused_correct_of}
use Rattle.wordlog.specs.line.Line.{header, line}
use Rattle.wordlog.specs.lines.Log.{lines, words, code_in, limit_in, bad, body, log}
use Rattle.wordlog.specs.lines.Parts.{Taken, size_in}
use Rattle.wordlog.specs.lines.Block.{counted, Numbered, Behind}
use Rattle.wordlog.specs.declared.lines.Block.{Block}
use Rattle.wordlog.proofs.lines.Pieces.{at_least, in_parts}

neither : (a b : Bool) → a || b ≡ false → (a ≡ false) × (b ≡ false)
neither true b e = absurd (subst T e tt)
neither false b e = (refl, e)

-- a recording that is not bad has its three octets, and its code is offered
pub good : (h : List ℕ) → bad h ≡ false → (3 ≤ length h) × (offered (code_in h) ≡ true)
good h e =
    let b = neither (ltb (length h) 3) (not (offered (code_in h))) e in
    (ltb-false (length h) 3 b.0, not-false (offered (code_in h)) b.1)

-- ---- the head alone

pub bad_head : (h : List ℕ) → bad h ≡ true → log h ≡ header ++ line 0 (refused_correct_of [] 1)
unfolding body
bad_head h e = rw e

-- no octets are no words
no_words : (n : ℕ) → offered n ≡ true → words n [] ≡ 0
no_words n t = div-eq_of_lt (omega (arith, at_least n t))

-- no words: the header
pub good_head : (h : List ℕ) → length h ≤ 3 → bad h ≡ false → log h ≡ header
unfolding body lines
good_head h l e =
    let n = code_in h in
    rw e (
    ap (λ (o : List ℕ). header ++ lines n (limit_in h) 0 o (words n o)) (drop_of_length-le h l)
    ∙ ap (λ k. header ++ lines n (limit_in h) 0 [] k) (no_words n (good h e).1)
    ∙ append-nil header
    )

-- ---- words behind the head

-- the lines of what stands behind the three octets
pub behind : (h octets : List ℕ) → length h ≡ 3 → bad h ≡ false
    → body (h ++ octets) ≡ lines (code_in h) (limit_in h) 0 octets (words (code_in h) octets)
unfolding body
behind [] octets l e = absurd (omega arith)
behind (a ∷ []) octets l e = absurd (omega arith)
behind (a ∷ b ∷ []) octets l e = absurd (omega arith)
behind (a ∷ b ∷ c ∷ []) octets l e =
    let f : ltb (length (a ∷ b ∷ c ∷ octets)) 3 ≡ false = le-ltb (length (a ∷ b ∷ c ∷ octets)) 3 (omega arith) in
    ap₂ (λ (t u : Bool). when t || u then line 0 (refused_correct_of [] 1) else lines a (256 * b + c) 0 octets (words a octets)) f
    (neither (ltb 3 3) (not (offered a)) e).1
behind (a ∷ b ∷ c ∷ d ∷ h) octets l e = absurd (omega arith)

-- whole words, and what follows them
words_behind : (n j : ℕ) (a b : List ℕ) → offered n ≡ true → length a ≡ j * (code n).octets_of_word → words n (a ++ b) ≡ j + words n b
words_behind n j a b t e =
    let w = (code n).octets_of_word in
    let z : 0 < w = omega (arith, at_least n t) in
    ap (λ m. (m + (w - 1)) / w) (length-append a b ∙ ap (λ m. m + length b) e)
    ∙ ap (λ m. m / w) (add_assoc (j * w) (length b) (w - 1))
    ∙ mul-add-div_right z j (length b + (w - 1))

words_whole : (n j : ℕ) (a : List ℕ) → offered n ≡ true → length a ≡ j * (code n).octets_of_word → words n a ≡ j
words_whole n j a t e =
    ap (λ (o : List ℕ). words n o) (sym (append-nil a)) ∙ words_behind n j a [] t e ∙ ap (λ m. j + m) (no_words n t) ∙ add-zero j

whole_words : (read w : ℕ) → read % w ≡ 0 → read ≡ read / w * w
whole_words read w e = sym (div-add-mod' read w) ∙ ap (λ m. read / w * w + m) e ∙ add-zero (read / w * w)

-- whole words behind whole words
pub whole_sum : (a b w : ℕ) → a % w ≡ 0 → b % w ≡ 0 → (a + b) % w ≡ 0
whole_sum a b w e f = add-mod a b w ∙ ap₂ (λ x y. (x + y) % w) e f ∙ zero-mod w

-- What a block adds, whatever whole words were read before it: the lines of its words, numbered on.
pub grows : (h before octets : List ℕ) → length h ≡ 3 → bad h ≡ false → length before % (code (code_in h)).octets_of_word ≡ 0
    → log (h ++ (before ++ octets))
    ≡ log (h ++ before) ++ lines (code_in h) (limit_in h) (length before / (code (code_in h)).octets_of_word) octets
    (words (code_in h) octets)
grows h before octets l e m =
    let n = code_in h in
    let t = (good h e).1 in
    let j = length before / (code n).octets_of_word in
    let k = whole_words (length before) (code n).octets_of_word m in
    ap (λ (o : List ℕ). header ++ o) (
    behind h (before ++ octets) l e
    ∙ ap (λ i. lines n (limit_in h) 0 (before ++ octets) i) (words_behind n j before octets t k)
    ∙ in_parts n (limit_in h) 0 before octets j (words n octets) k
    ∙ ap₂ (λ (p : List ℕ) (i : ℕ). p ++ lines n (limit_in h) i octets (words n octets)) (
    ap (λ i. lines n (limit_in h) 0 before i) (sym (words_whole n j before t k)) ∙ sym (behind h before l e)
    ) (zero-add j)
    )
    ∙ sym (append_assoc header (body (h ++ before)) (lines n (limit_in h) j octets (words n octets)))

-- each word of a block has an index
pub numbered : (h octets : List ℕ) (read : ℕ) (b : Block) → Behind h read octets b → read + length octets < 2 ^ 64
    → Numbered b.code b.size b.index octets
numbered h octets read b e l =
    (e.2 ∙ ap (λ n. (code n).octets_of_word) (sym e.0), e.3, omega (arith, e.4, div-le_self read b.size))

-- what a block adds, as the code has it
pub adds : (h octets text : List ℕ) (read : ℕ) (b : Block) → Taken h → read % size_in h ≡ 0 → Behind h read octets b
    → text ≡ lines b.code b.limit b.index octets b.count
    → (before : List ℕ) → length before ≡ read → log (h ++ (before ++ octets)) ≡ log (h ++ before) ++ text
adds h octets text read b t m e g before k =
    let n = code_in h in
    let w = size_in h in
    let i : b.index ≡ length before / w = e.4 ∙ ap₂ (λ x y. x / y) (sym k) e.2 in
    let j : b.count ≡ words n octets = e.5 ∙ ap (λ y. counted y octets) e.2 in
    grows h before octets t.0 t.1 (ap (λ x. x % w) k ∙ m)
    ∙ ap (λ (l : List ℕ). log (h ++ before) ++ l) (sym (
    g
    ∙ ap₂ (λ x y. lines x y b.index octets b.count) e.0 e.1
    ∙ ap₂ (λ x y. lines n (limit_in h) x octets y) i j
    ))

-- ---- block after block

abbrev pub joined : List (List ℕ) → List ℕ → List ℕ
joined [] last = last
joined (b ∷ bs) last = b ++ joined bs last

-- all but the last have whole words
abbrev pub Filled : ℕ → List (List ℕ) → Type 0
Filled w [] = Unit {0}
Filled w (b ∷ bs) = (length b % w ≡ 0) × Filled w bs

module _ (h : List ℕ) where
  abbrev size : ℕ
  size = (code (code_in h)).octets_of_word

  -- the lines of the blocks, one after the other, each numbered on from the octets that were read before it
  abbrev pub texts : ℕ → List (List ℕ) → List ℕ → List ℕ
  texts read [] last = lines (code_in h) (limit_in h) (read / size) last (words (code_in h) last)
  texts read (b ∷ bs) last = lines (code_in h) (limit_in h) (read / size) b (words (code_in h) b) ++ texts (read + length b) bs last

  blocks_grow : (before : List ℕ) (bs : List (List ℕ)) (last : List ℕ) → length h ≡ 3 → bad h ≡ false → length before % size ≡ 0
      → Filled size bs
      → log (h ++ (before ++ joined bs last)) ≡ log (h ++ before) ++ texts (length before) bs last
  blocks_grow before [] last l e m f = grows h before last l e m
  blocks_grow before (b ∷ bs) last l e m f =
      let long = length-append before b in
      let n : length (before ++ b) % size ≡ 0 =
      ap (λ k. k % size) long ∙ whole_sum (length before) (length b) size m f.0 in
      let t = lines (code_in h) (limit_in h) (length before / size) b (words (code_in h) b) in
      ap (λ (o : List ℕ). log (h ++ o)) (sym (append_assoc before b (joined bs last)))
      ∙ blocks_grow (before ++ b) bs last l e n f.1
      ∙ ap₂ (λ (p : List ℕ) (k : ℕ). p ++ texts k bs last) (grows h before b l e m) long
      ∙ append_assoc (log (h ++ before)) t (texts (length before + length b) bs last)

  -- What the program writes, the log of the head and then the lines of the blocks, is the log of the whole.
  pub in_blocks : (bs : List (List ℕ)) (last : List ℕ) → length h ≡ 3 → bad h ≡ false → Filled size bs
      → log (h ++ joined bs last) ≡ log h ++ texts 0 bs last
  in_blocks bs last l e f =
      blocks_grow [] bs last l e (zero-mod size) f ∙ ap (λ (o : List ℕ). log o ++ texts 0 bs last) (append-nil h)
