-- The list of a run: what follows of it, for every code number, every word, every limit and every table.
use mathlib.Core.Path.{◌≡◌, refl, sym, ap, ap₂, ◌∙◌, subst}
use mathlib.Core.Bool.{Bool, true, false, not}
use mathlib.Core.List.{List, [], ◌∷◌, ◌++◌}
use Prim.Native.Nat.{ℕ, zero, suc, ◌+◌, ◌-◌, ◌*◌, ◌≤◌, ◌<◌}
use native.Mathlib.Nat.{lt_of_not-le}
use native.Mathlib.Decide.{dec_lt}
use native.Mathlib.Omega.{arith}
use lib.Dec.{T, eqb, ltb, nltb→le, lit≤}
use lib.IntN.{ℤ, pos, negsuc, sub_ℕ}
use lib.Signed.{lt_z}
use lib.ListN.{length, get_or, take, drop}
use borrow.Author.Tests.{eq-eqb, ne_eqb, le-ltb, lt-ltb, ltb-true}
use Rattle.bits.specs.Bits.{Word, bit, count, flipped, when◌then◌else◌}
use Rattle.rules.specs.Codes.{Code, code, code1, code2, code3, code4, code5, bits, checks, offered, telecommanded}
use Rattle.rules.specs.Tables.{parity16, parity32, parity64, parity511}
use Rattle.rules.specs.Checks.{check, broken, excess, broken_of, met_of}
use Rattle.rules.specs.Encoding.{lifted, sent, codeword, written}
use Rattle.rules.specs.Flipping.{stuck, Way, greatest_sent, by_excess, Flip, Run, run, ended}
use Rattle.answers.specs.Calls.{refusal, unless, judged, Corrected, refused_correct_of, ran_correct, ran_from, correct_answer}
use Rattle.answers.specs.Lists.{Entry, entries, entered_in, reason, Listed, listed_by, refused_list, ran_list, listed_from, list_answer}
use Rattle.bits.proofs.Counting.{count-le}
use Rattle.rules.proofs.Runs.{every_run, run_within, run_ends, End, ends_quiet, ends_stuck, ends_limit}
use Rattle.rules.proofs.Flips.{broken_flip, excess_is}
use Rattle.rules.proofs.Greatest.{Greatest, not-less}
use Rattle.rules.proofs.Ways.{Chooses, Chosen, run_fall, run_half, limit_serves, half_serves}
use Rattle.rules.proofs.Choosing.{chosen_greatest, quiet_next, stuck_next, next_stuck}
use Rattle.rules.proofs.Numbers.{five, three, telecommand_offered}
use Rattle.answers.proofs.Answers.{unless_taken, unless_refused, refusal_not, unless_cases, correct_taken}
use Rattle.answers.proofs.Corrections.{chooses, near_earthed, near_two, near_offered, near_degree}

-- ---- the answer by cases

-- a table with just as many places as flips serves: one without places a run without flips
pub just_served : (c : Code) (x : Word) (k : ℕ) → (ran_list c x (ended k x) []).number ≡ judged c (ended k x)
unfolding ran_list ran_correct
just_served c x k = refl

module _ (n : ℕ) (word : List ℕ) (limit : ℕ) (table : List Entry) where
  pub list_taken : T (offered n) → length word ≡ (code n).octets_of_word → list_answer n word limit table ≡ listed_from n word limit table
  unfolding list_answer
  list_taken t lw =
      unless_taken (refused_list table) (listed_from n word limit table) (refusal (offered n) (length word) (code n).octets_of_word 0 0)
      (refusal_not (offered n) (length word) (code n).octets_of_word 0 0 t lw refl)

  pub list_refused : (k : ℕ) → k ≡ refusal (offered n) (length word) (code n).octets_of_word 0 0 → (k ≡ 0 → ⊥)
      → list_answer n word limit table ≡ refused_list table k
  unfolding list_answer
  list_refused k e d = ap (λ z. unless z (refused_list table) (listed_from n word limit table)) (sym e)
      ∙ unless_refused (refused_list table) (listed_from n word limit table) k d

  pub list_cases : (P : Listed → Type 0) → P (refused_list table 1) → P (refused_list table 2) → P (refused_list table 3)
      → (T (offered n) → length word ≡ (code n).octets_of_word → P (listed_from n word limit table)) → P (list_answer n word limit table)
  unfolding list_answer
  list_cases P p1 p2 p3 p = unless_cases (offered n) (length word) (code n).octets_of_word 0 0 P (refused_list table)
      (listed_from n word limit table) p1 p2 p3 (λ t lw e. p t lw)

module _ (c : Code) (x : Word) (r : Run) (table : List Entry) where
  -- 10, where the run has more flips than the table has places
  pub list_short : length table < length r.flips → ran_list c x r table ≡ refused_list table 10
  unfolding ran_list
  list_short l = ap (λ b. when b then refused_list table 10 else listed_by (ran_correct c x r []) (reason c r)
      (entered_in table (entries c x r.flips))) (lt-ltb (length table) (length r.flips) l)

  -- a table with as many places as the run has flips is written
  pub list_fits : length r.flips ≤ length table
      → ran_list c x r table ≡ listed_by (ran_correct c x r []) (reason c r) (entered_in table (entries c x r.flips))
  unfolding ran_list
  list_fits l = ap (λ b. when b then refused_list table 10 else listed_by (ran_correct c x r []) (reason c r)
      (entered_in table (entries c x r.flips))) (le-ltb (length table) (length r.flips) l)

  pub ran_list_cases : (P : Listed → Type 0) → (length table < length r.flips → P (refused_list table 10))
      → (length r.flips ≤ length table → P (listed_by (ran_correct c x r []) (reason c r) (entered_in table (entries c x r.flips))))
      → P (ran_list c x r table)
  ran_list_cases P short fits = go (dec_lt (length table) (length r.flips))
    where
      go : Dec (length table < length r.flips) → P (ran_list c x r table)
      go (yes l) = subst P (sym (list_short l)) (short l)
      go (no m) = subst P (sym (list_fits (omega (arith, lt_of_not-le m)))) (fits (omega (arith, lt_of_not-le m)))

-- ---- its numbers are correct's, for any output of the right length

pub list_numbers : (n : ℕ) (word : List ℕ) (limit : ℕ) (table : List Entry) (out : List ℕ) → length out ≡ (code n).octets_of_word
    → ((list_answer n word limit table).number ≡ 10 → ⊥)
    → let l = list_answer n word limit table in listed_by (correct_answer n word limit out) (record { bit = l.bit; excess = l.excess })
    l.table ≡ l
unfolding list_answer correct_answer ran_correct
list_numbers n word limit table out lo = go (offered n) (eqb (length word) (code n).octets_of_word)
  where
    Same : Corrected → Listed → Type 0
    Same k l = (l.number ≡ 10 → ⊥) → listed_by k (record { bit = l.bit; excess = l.excess }) l.table ≡ l

    ran : (x : Word) (r : Run) → Same (ran_correct (code n) x r out) (ran_list (code n) x r table)
    ran x r = ran_list_cases (code n) x r table (Same (ran_correct (code n) x r out)) (λ l other. absurd (other refl)) (λ l other. refl)

    go : (a b : Bool) → Same
        (unless (when not a then 1 else when not b then 2 else when not (eqb (length out) (code n).octets_of_word) then 3 else 0)
        (refused_correct_of out) (ran_from n word limit out))
        (unless (when not a then 1 else when not b then 2 else when not (eqb 0 0) then 3 else 0) (refused_list table)
        (listed_from n word limit table))
    go false b = λ other. refl
    go true false = λ other. refl
    go true true =
        subst (λ z. Same (unless (when not z then 3 else 0) (refused_correct_of out) (ran_from n word limit out))
        (listed_from n word limit table)) (sym (eq-eqb (length out) (code n).octets_of_word lo))
        (ran (lifted (code n) (bit word)) (run (by_excess (code n)) limit (lifted (code n) (bit word))))

-- ---- following the list

-- each record's bit flipped, one after another
unfoldable pub followed : Word → List Entry → Word
followed x [] = x
followed x (e ∷ list) = followed (flipped x e.bit) list

module _ (c : Code) where
  pub list_long : (x : Word) (flips : List Flip) → length (entries c x flips) ≡ length flips
  unfolding entries
  list_long x [] = refl
  list_long x (f ∷ flips) = ap suc (list_long (flipped x f.bit) flips)

  -- following the list from the received word gives the run's word, under any way of choosing
  pub list_followed : (way : Way) (limit : ℕ) (x : Word) → followed x (entries c x (run way limit x).flips) ≡ (run way limit x).word
  unfolding entries followed
  list_followed way = every_run way (λ limit x r. followed x (entries c x r.flips) ≡ r.word)
      (λ limit x e. refl) (λ limit x n ex e. refl) (λ x n ex e. refl) (λ limit x n ex e r ih. ih)

  -- each record's broken checks left are those of the word so far
  pub list_left : (x : Word) (flips : List Flip) (d : Entry) (k : ℕ) → k < length flips
      → (get_or (entries c x flips) k d).left ≡ broken c (followed x (take (suc k) (entries c x flips)))
  unfolding entries followed
  list_left x [] d k l = absurd (omega arith)
  list_left x (f ∷ flips) d zero l = refl
  list_left x (f ∷ flips) d (suc k) l = list_left (flipped x f.bit) flips d k (omega arith)

  whole : (list : List Entry) (k : ℕ) → k ≡ length list → take k list ≡ list
  whole [] zero e = refl
  whole [] (suc k) e = refl
  whole (y ∷ list) zero e = absurd (omega arith)
  whole (y ∷ list) (suc k) e = ap (λ z. y ∷ z) (whole list k (omega arith))

  -- and the last one's are those at the end
  pub list_last : (way : Way) (limit : ℕ) (x : Word) (d : Entry) (k : ℕ) → suc k ≡ length (run way limit x).flips
      → (get_or (entries c x (run way limit x).flips) k d).left ≡ broken c (run way limit x).word
  list_last way limit x d k e =
      list_left x (run way limit x).flips d k (omega arith)
      ∙ ap (λ z. broken c (followed x z))
      (whole (entries c x (run way limit x).flips) (suc k) (e ∙ sym (list_long x (run way limit x).flips)))
      ∙ ap (broken c) (list_followed way limit x)

  -- each record's excess is what the broken checks fall by
  abbrev pub Falls : Word → List Entry → Type 0
  Falls x [] = Unit {0}
  Falls x (e ∷ list) = (e.excess ≡ sub_ℕ (broken c x) e.left) × Falls (flipped x e.bit) list

  pub list_falls : {way : Way} → Chooses c way → (limit : ℕ) (x : Word) → Falls x (entries c x (run way limit x).flips)
  unfolding entries
  list_falls {way} ch = every_run way (λ limit x r. Falls x (entries c x r.flips))
      (λ limit x e. tt) (λ limit x n ex e. tt) (λ x n ex e. tt) (λ limit x n ex e r ih. (fall x n ex (ch.flips x n ex e), ih))
    where
      same : (a b p q : ℕ) → a + q ≡ p + b → sub_ℕ a b ≡ sub_ℕ p q
      same a b p q e = go (ltb a b) (ltb p q) refl refl
        where
          go : (s t : Bool) → ltb a b ≡ s → ltb p q ≡ t → sub_ℕ a b ≡ sub_ℕ p q
          go true true f g =
              let h = ltb-true a b f in let k = ltb-true p q g in
              let z : b - suc a ≡ q - suc p = omega arith in
              ap (λ s. mathlib.Core.Bool.cond s (negsuc (b - suc a)) (pos (a - b))) f ∙ ap negsuc z
              ∙ sym (ap (λ s. mathlib.Core.Bool.cond s (negsuc (q - suc p)) (pos (p - q))) g)
          go true false f g =
              let h = ltb-true a b f in let k = nltb→le p q (subst (λ t. T (not t)) (sym g) tt) in absurd (omega arith)
          go false true f g =
              let h = nltb→le a b (subst (λ t. T (not t)) (sym f) tt) in let k = ltb-true p q g in absurd (omega arith)
          go false false f g =
              let h = nltb→le a b (subst (λ t. T (not t)) (sym f) tt) in let k = nltb→le p q (subst (λ t. T (not t)) (sym g) tt) in
              let z : a - b ≡ p - q = omega arith in
              ap (λ s. mathlib.Core.Bool.cond s (negsuc (b - suc a)) (pos (a - b))) f ∙ ap pos z
              ∙ sym (ap (λ s. mathlib.Core.Bool.cond s (negsuc (q - suc p)) (pos (p - q))) g)

      fall : (x : Word) (n : ℕ) (ex : ℤ) → Chosen c x n ex → ex ≡ sub_ℕ (broken c x) (broken c (flipped x n))
      fall x n ex f =
          f.value ∙ excess_is c x n
          ∙ same (broken_of c x n) (met_of c x n) (broken c x) (broken c (flipped x n)) (omega (arith, broken_flip c x n f.under))

-- ---- the table afterwards

take-front : {A : Type 0} (l m : List A) (k : ℕ) → k ≡ length l → take k (l ++ m) ≡ l
take-front [] m zero e = refl
take-front [] m (suc k) e = absurd (omega arith)
take-front (y ∷ l) m zero e = absurd (omega arith)
take-front (y ∷ l) m (suc k) e = ap (λ z. y ∷ z) (take-front l m k (omega arith))

behind : {A : Type 0} (l t : List A) (k : ℕ) (d : A) → length l ≤ k → length l ≤ length t
    → get_or (l ++ drop (length l) t) k d ≡ get_or t k d
behind [] t k d h m = refl
behind (y ∷ l) [] k d h m = absurd (omega arith)
behind (y ∷ l) (z ∷ t) zero d h m = absurd (omega arith)
behind (y ∷ l) (z ∷ t) (suc k) d h m = behind l t k d (omega arith) (omega arith)

-- records past the list stay as they were: all of them, where a call is refused
pub list_past : (n : ℕ) (word : List ℕ) (limit : ℕ) (table : List Entry) (d : Entry) (k : ℕ) → (list_answer n word limit table).flips ≤ k
    → get_or (list_answer n word limit table).table k d ≡ get_or table k d
unfolding ran_correct
list_past n word limit table d k =
    list_cases n word limit table (λ l. l.flips ≤ k → get_or l.table k d ≡ get_or table k d) (λ h. refl) (λ h. refl) (λ h. refl) (λ t lw.
    let c = code n in let x = lifted c (bit word) in let r = run (by_excess c) limit x in
    ran_list_cases c x r table (λ l. l.flips ≤ k → get_or l.table k d ≡ get_or table k d) (λ l h. refl) (λ l h.
    behind (entries c x r.flips) table k d (omega (arith, h, list_long c x r.flips)) (omega (arith, l, list_long c x r.flips))))

-- following the records that were entered gives the run's word, and what correct writes is that word
module _ (n : ℕ) (word : List ℕ) (limit : ℕ) (table : List Entry) (t : T (offered n)) (lw : length word ≡ (code n).octets_of_word)
    (room : (list_answer n word limit table).number ≡ 10 → ⊥) where
  pub list_word : followed (lifted (code n) (bit word)) (take (list_answer n word limit table).flips (list_answer n word limit table).table)
      ≡ (run (by_excess (code n)) limit (lifted (code n) (bit word))).word
  unfolding ran_correct
  list_word =
      let c = code n in let x = lifted c (bit word) in let r = run (by_excess c) limit x in
      let P : Listed → Type 0 = λ l. (l.number ≡ 10 → ⊥) → followed x (take l.flips l.table) ≡ r.word in
      subst P (sym (list_taken n word limit table t lw)) (ran_list_cases c x r table P (λ l other. absurd (other refl)) (λ l other.
      ap (followed x) (take-front (entries c x r.flips) (drop (length (entries c x r.flips)) table) (length r.flips)
      (sym (list_long c x r.flips))) ∙ list_followed c (by_excess c) limit x)) room

  pub list_written : (out : List ℕ) → length out ≡ (code n).octets_of_word → (correct_answer n word limit out).number ≡ 0
      → (correct_answer n word limit out).out ≡ written (code n)
      (followed (lifted (code n) (bit word)) (take (list_answer n word limit table).flips (list_answer n word limit table).table))
  unfolding ran_correct
  list_written out lo e =
      let c = code n in let r = run (by_excess c) limit (lifted c (bit word)) in
      ap (λ a. a.out) (correct_taken n word limit out t lw lo)
      ∙ ap (λ b. when b then written c r.word else out)
      (eq-eqb (judged c r) 0 (sym (ap (λ a. a.number) (correct_taken n word limit out t lw lo)) ∙ e))
      ∙ ap (written c) (sym list_word)

-- ---- the reason

module _ (c : Code) (x : Word) where
  -- where nothing is flipped, what is named is the greatest
  pub stuck_is : (n : ℕ) (ex : ℤ) → by_excess c x ≡ stuck n ex → (n ≡ greatest_sent c x) × (ex ≡ excess c x (greatest_sent c x))
  stuck_is n ex e =
      let f : lt_z (pos 0) (excess c x (greatest_sent c x)) ≡ false = next_stuck c x n ex e in
      let some : broken c x ≡ 0 → ⊥ = λ z. let w = quiet_next c x z in let v : ◌≡◌ {A = ℕ} 0 1 = cc in omega arith in
      let w = stuck_next c x some f in
      (cc, cc)

module _ (c : Code) (r : Run) where
  pub reason_none : (r.number ≡ 5 → ⊥) → reason c r ≡ record { bit = 0; excess = pos 0 }
  unfolding reason
  reason_none d =
      ap (λ b. when b then record { bit = greatest_sent c r.word; excess = excess c r.word (greatest_sent c r.word) } else
      record { bit = 0; excess = pos 0 }) (ne_eqb r.number 5 d)

  pub reason_five : r.number ≡ 5
      → reason c r ≡ record { bit = greatest_sent c r.word; excess = excess c r.word (greatest_sent c r.word) }
  unfolding reason
  reason_five e =
      ap (λ b. when b then record { bit = greatest_sent c r.word; excess = excess c r.word (greatest_sent c r.word) } else
      record { bit = 0; excess = pos 0 }) (eq-eqb r.number 5 e)

  pub reason_stuck : r.number ≡ 5 → (n : ℕ) (ex : ℤ) → by_excess c r.word ≡ stuck n ex → reason c r ≡ record { bit = n; excess = ex }
  reason_stuck e n ex s =
      let is = stuck_is c r.word n ex s in
      reason_five e ∙ ap₂ (λ b v. record { bit = b; excess = v }) (sym is.0) (sym is.1)

-- on refusal 5 the reason's bit may be flipped and has its excess, which is 0 or below; no bit that may be flipped has a greater one, and
-- none before it the same
pub record Reason (c : Code) (w : Word) (why : Flip) : Type 0 where
  pub sent : c.unsent ≤ why.bit
  pub under : why.bit < bits c
  pub has : why.excess ≡ excess c w why.bit
  pub low : lt_z (pos 0) why.excess ≡ false
  pub most : (m : ℕ) → c.unsent ≤ m → m < bits c → lt_z why.excess (excess c w m) ≡ false
  pub lowest : (m : ℕ) → c.unsent ≤ m → m < why.bit → lt_z (excess c w m) why.excess ≡ true

pub reason_right : (c : Code) → c.unsent < bits c → (limit : ℕ) (x : Word) → (run (by_excess c) limit x).number ≡ 5
    → Reason c (run (by_excess c) limit x).word (reason c (run (by_excess c) limit x))
reason_right c some limit x e = subst (Reason c (run (by_excess c) limit x).word) (sym (reason_five c (run (by_excess c) limit x) e))
    (go (run_ends (by_excess c) limit x))
  where
    y : Word
    y = (run (by_excess c) limit x).word

    g : Greatest c.unsent (bits c - c.unsent) (excess c (run (by_excess c) limit x).word)
        (greatest_sent c (run (by_excess c) limit x).word)
    g = chosen_greatest c some (run (by_excess c) limit x).word

    as_true : (b : Bool) → T b → b ≡ true
    as_true true t = refl
    as_true false t = absurd t

    go : End (by_excess c) limit (run (by_excess c) limit x)
        → Reason c (run (by_excess c) limit x).word
        (record {
          bit = greatest_sent c (run (by_excess c) limit x).word;
          excess = excess c (run (by_excess c) limit x).word
              (greatest_sent c (run (by_excess c) limit x).word);
        })
    go (ends_quiet f w) = let z : ◌≡◌ {A = ℕ} 0 5 = sym f ∙ e in absurd (omega arith)
    go (ends_limit f l n ex w) = let z : ◌≡◌ {A = ℕ} 6 5 = sym f ∙ e in absurd (omega arith)
    go (ends_stuck f n ex w) = record {
      sent = g.from;
      under = omega (arith, g.under);
      has = refl;
      low = next_stuck c (run (by_excess c) limit x).word n ex w;
      most = λ m s u. not-less (excess c (run (by_excess c) limit x).word m)
          (excess c (run (by_excess c) limit x).word (greatest_sent c (run (by_excess c) limit x).word)) (g.most m s (omega arith));
      lowest = λ m s u. as_true _ (g.lowest m s u).lt;
    }

-- ---- a table that is never too short

-- a table with as many places as the run has flips is never refused with 10
module _ (n : ℕ) (word : List ℕ) (limit : ℕ) (table : List Entry) where
  not_ten : (c : Code) (r : Run) → (r.number ≡ 10 → ⊥) → judged c r ≡ 10 → ⊥
  not_ten c r other e = go (eqb r.number 0) (ltb 0 (count c.unsent r.word)) (codeword c (sent c r.word)) refl refl refl
    where
      spelled : (p q s : Bool) → eqb r.number 0 ≡ p → ltb 0 (count c.unsent r.word) ≡ q → codeword c (sent c r.word) ≡ s
          → (when not p then r.number else when q then 7 else when not s then 8 else 0) ≡ 10
      spelled p q s f g h =
          sym (ap (λ p. when not p then r.number else when ltb 0 (count c.unsent r.word) then 7 else when not
          (codeword c (sent c r.word)) then 8 else 0) f
          ∙ ap₂ (λ q s. when not p then r.number else when q then 7 else when not s then 8 else 0) g h) ∙ e

      go : (p q s : Bool) → eqb r.number 0 ≡ p → ltb 0 (count c.unsent r.word) ≡ q → codeword c (sent c r.word) ≡ s → ⊥
      go false q s f g h = other (spelled false q s f g h)
      go true true s f g h = let z = spelled true true s f g h in omega arith
      go true false true f g h = let z = spelled true false true f g h in omega arith
      go true false false f g h = let z = spelled true false false f g h in omega arith

  run_not_ten : (way : Way) (x : Word) → (run way limit x).number ≡ 10 → ⊥
  run_not_ten way x e = go (run_ends way limit x)
    where
      go : End way limit (run way limit x) → ⊥
      go (ends_quiet f w) = let z : ◌≡◌ {A = ℕ} 0 10 = sym f ∙ e in omega arith
      go (ends_stuck f n ex w) = let z : ◌≡◌ {A = ℕ} 5 10 = sym f ∙ e in omega arith
      go (ends_limit f l n ex w) = let z : ◌≡◌ {A = ℕ} 6 10 = sym f ∙ e in omega arith

  served : (T (offered n) → length (run (by_excess (code n)) limit (lifted (code n) (bit word))).flips ≤ length table)
      → (list_answer n word limit table).number ≡ 10 → ⊥
  unfolding ran_correct
  served few =
      list_cases n word limit table (λ l. l.number ≡ 10 → ⊥) (λ e. omega arith) (λ e. omega arith) (λ e. omega arith) (λ t lw.
      let x = lifted (code n) (bit word) in let r = run (by_excess (code n)) limit x in
      subst (λ l. l.number ≡ 10 → ⊥) (sym (list_fits (code n) x r table (few t))) (not_ten (code n) r (run_not_ten (by_excess (code n)) x)))

  -- as many places as the limit
  pub limit_serves_table : limit ≤ length table → (list_answer n word limit table).number ≡ 10 → ⊥
  limit_serves_table h = served (λ t. omega (arith, h, run_within (by_excess (code n)) limit (lifted (code n) (bit word))))

  -- as many places as checks are broken at the start
  pub first_serves_table : broken (code n) (lifted (code n) (bit word)) ≤ length table → (list_answer n word limit table).number ≡ 10 → ⊥
  first_serves_table h = served (λ t. omega (arith, h, run_fall (chooses n t) limit (lifted (code n) (bit word))))

  -- for codes 4 and 5 half as many
  pub half_serves_table : T (near_earthed n) → broken (code n) (lifted (code n) (bit word)) ≤ 2 * length table + 1
      → (list_answer n word limit table).number ≡ 10 → ⊥
  half_serves_table near h = served
      (λ t. omega (arith, h, run_half (chooses n t) (λ k l. (2, near_degree n near k l)) limit (lifted (code n) (bit word))))

-- ---- no run has more than 511 flips: codes 1 to 3 have no more checks, and codes 4 and 5 twice as many, of which a flip mends two

few_checks : (n : ℕ) → T (telecommanded n) → checks (code n) ≤ 256
unfolding code code1 code2 code3 parity16 parity32 parity64
few_checks = three (λ n. checks (code n) ≤ 256) (lit≤ tt) (lit≤ tt) (lit≤ tt)

near_checks : (n : ℕ) → T (near_earthed n) → checks (code n) ≤ 1022
unfolding code code4 code5 parity511
near_checks = near_two (λ n. checks (code n) ≤ 1022) (lit≤ tt) (lit≤ tt)

broken_few : (c : Code) (x : Word) → broken c x ≤ checks c
unfolding broken
broken_few c x = count-le (checks c) (check c x)

-- so 511 is never the limit that ends a run
pub places_serve : (n : ℕ) → T (offered n) → (x : Word) → (run (by_excess (code n)) 511 x).number ≡ 6 → ⊥
places_serve = five (λ n. (x : Word) → (run (by_excess (code n)) 511 x).number ≡ 6 → ⊥) (few 1 tt) (few 2 tt) (few 3 tt) (near 4 tt)
    (near 5 tt)
  where
    few : (n : ℕ) → T (telecommanded n) → (x : Word) → (run (by_excess (code n)) 511 x).number ≡ 6 → ⊥
    few n t x = limit_serves (chooses n (telecommand_offered n t)) 511 x (omega (arith, broken_few (code n) x, few_checks n t))

    near : (n : ℕ) → T (near_earthed n) → (x : Word) → (run (by_excess (code n)) 511 x).number ≡ 6 → ⊥
    near n t x = half_serves (chooses n (near_offered n t)) (λ k l. (2, near_degree n t k l)) 511 x
        (omega (arith, broken_few (code n) x, near_checks n t))
