-- A list that is being written, record by record, and its end.
use mathlib.Core.Path.{◌≡◌, refl, sym, ap, ap₂, ◌∙◌, subst}
use mathlib.Core.Bool.{true, false, not}
use mathlib.Core.List.{List, [], ◌∷◌, ◌++◌, map}
use Prim.Native.Nat.{ℕ, zero, suc, ◌+◌, ◌-◌, ◌/◌, ◌≤◌, ◌<◌}
use native.Mathlib.Omega.{arith}
use lib.Dec.{T, leb}
use lib.IntN.{ℤ, pos}
use lib.ListN.{length, get_or, take, drop, set}
use borrow.Author.Tests.{leb-true, leb-false}
use Rattle.bits.specs.Bits.{Word, bit, flipped}
use Rattle.rules.specs.Codes.{code, bits, offered}
use Rattle.rules.specs.Checks.{broken, lowest}
use Rattle.rules.specs.Flipping.{quiet, stuck, flip, by_excess, Run, run}
use Rattle.answers.specs.Calls.{judged, differing, ran_correct}
use Rattle.answers.specs.Lists.{Entry, entries, entered_in, reason, Listed as ListedAnswer, refused_list, list_answer}
use Rattle.rules.proofs.Runs.{run_flip}
use Rattle.rules.proofs.Ways.{run_met, run_fall, run_half}
use Rattle.rules.proofs.Choosing.{by_excess_lem}
use Rattle.rules.proofs.Codewords.{lifted_unsent}
use Rattle.rules.proofs.Numbers.{five, published}
use Rattle.answers.proofs.Corrections.{chooses, near_earthed, near_degree}
use Rattle.answers.proofs.Refusals.{unsent_stay}
use Rattle.answers.proofs.Lists.{reason_none, reason_stuck, list_fits, list_short, list_long, list_taken}
use Rattle.vectors.specs.Vectors.{wbit}
use Rattle.layout.specs.declared.Shape.{Shape}
use Rattle.layout.specs.Lent.{laid}
use Rattle.catalogue.specs.declared.offer.Offer.{Offer}
use Rattle.catalogue.specs.offer.Offers.{offer_of}
use Rattle.catalogue.proofs.offer.Offers.{is_offered}
use Rattle.flipping.specs.endings.Ends.{EndsAt}
use Rattle.refusals.proofs.Admitted.{word_long}
use Rattle.flipping.proofs.endings.Ends.{ends_at}
use Rattle.catalogue.specs.tables.Flat.{Lends}
use Rattle.word.specs.measured.Measured.{Measured}
use Rattle.flipping.specs.runs.Passes.{Going, RunsTo}
use Rattle.flipping.specs.declared.runs.Ending.{Ending}
use Rattle.flipping.specs.declared.runs.Ending.TheVariants.{Quiet, Stuck, Limit}
use Rattle.flipping.specs.runs.Endings.{number_of}
use Rattle.flipping.proofs.runs.Passing.{going_start, ends_quiet, ends_stuck, ends_limit, goes_on}
use Rattle.lists.specs.declared.listing.FlipRecord.{FlipRecord}
use Rattle.lists.specs.declared.listing.Listing.{Listing}
use Rattle.lists.specs.listing.Answers.{as_entry, as_entries, listed_as}
use Rattle.flipping.specs.endings.Ends.{word_of, run_of}
use Rattle.lists.specs.listing.Listings.{list_of, so_far, ends_with, Measures, Ends, Stands, Lists}

-- ---- lists

module _ {A : Type 0} where
  -- a list that goes on with e after its first k
  pub goes_with : (k : ℕ) (l rest : List A) (e d : A) → l ≡ take k l ++ (e ∷ rest) → (get_or l k d ≡ e) × (l ≡ take (suc k) l ++ rest)
  goes_with zero l rest e d p = (ap (λ z. get_or z 0 d) p, p ∙ ap (λ z. take 1 z ++ rest) (sym p))
  goes_with (suc k) [] rest e d p = let z : 0 ≡ suc (length rest) = ap length p in absurd (omega (arith, z))
  goes_with (suc k) (x ∷ l) rest e d p =
      let w = goes_with k l rest e d (ap (drop 1) p) in
      (w.0, ap (λ z. x ∷ z) w.1)

  -- one more of the list is put into the table
  pub one_more : (k : ℕ) (l table : List A) (d : A) → k < length l → k < length table
      → set (take k l ++ drop k table) k (get_or l k d) ≡ take (k + 1) l ++ drop (k + 1) table
  one_more k l table d a b =
      let z : suc k ≡ k + 1 = omega arith in
      go k l table a b ∙ ap (λ i. take i l ++ drop i table) z
    where
      go : (k : ℕ) (l table : List A) → k < length l → k < length table
          → set (take k l ++ drop k table) k (get_or l k d) ≡ take (suc k) l ++ drop (suc k) table
      go k [] table a b = absurd (omega arith)
      go k (x ∷ l) [] a b = absurd (omega arith)
      go zero (x ∷ l) (t ∷ table) a b = refl
      go (suc k) (x ∷ l) (t ∷ table) a b = ap (λ z. x ∷ z) (go k l table (omega arith) (omega arith))

  pub whole : (k : ℕ) (l : List A) → k ≡ length l → take k l ≡ l
  whole zero [] e = refl
  whole (suc k) [] e = refl
  whole zero (x ∷ l) e = absurd (omega arith)
  whole (suc k) (x ∷ l) e = ap (λ z. x ∷ z) (whole k l (omega arith))

map-set : {A B : Type 0} (f : A → B) (l : List A) (k : ℕ) (a : A) → map f (set l k a) ≡ set (map f l) k (f a)
map-set f [] k a = refl
map-set f (x ∷ l) zero a = refl
map-set f (x ∷ l) (suc k) a = ap (λ z. f x ∷ z) (map-set f l k a)

-- ---- the table

module _ (n : ℕ) (word : List ℕ) (limit room : ℕ) (table : List Entry) (now : List FlipRecord) (l : Listing) (h y z : List ℕ)
    (is : Lists n word limit room l h y z) (on : l.goes ≡ true) (long : length table ≡ room)
    (so : as_entries now ≡ so_far (list_of n word limit) l.place table) where
  -- the place of a list that goes on is one of the table's
  pub in_table : l.place + 1 ≤ room
  in_table = omega (arith, (is.goes on).going.count, (is.goes on).serves)

  -- and with the record there, one more of the list is in the table
  pub put_next : as_entries (set now l.place l.record) ≡ so_far (list_of n word limit) (l.place + 1) table
  put_next =
      map-set as_entry now l.place l.record
      ∙ ap₂ (λ w e. set w l.place e) so (sym (is.record_is on (as_entry l.record)))
      ∙ one_more l.place (list_of n word limit) table (as_entry l.record)
      (omega (arith, list_long (code n) (word_of n word) (run_of n word limit).flips, (is.goes on).going.count)) (omega (
        arith,
        in_table,
        long,
      ))

-- a list that is refused: nothing is written
pub refused_lists : (n : ℕ) (word : List ℕ) (limit room : ℕ) (l : Listing) (h y z : List ℕ) (number : ℕ) → l.goes ≡ false
    → l.place ≡ 0 → ((table : List Entry) → listed_as l.answer table ≡ refused_list table number)
    → ((table : List Entry) → length table ≡ room → refused_list table number ≡ list_answer n word limit table)
    → Lists n word limit room l h y z
refused_lists n word limit room l h y z number off at is told = record {
  goes = λ on. absurd (subst T (sym on ∙ off) tt);
  record_is = λ on. absurd (subst T (sym on ∙ off) tt);
  ends = λ _ table long. ap (λ k. listed_as l.answer (so_far (list_of n word limit) k table)) at ∙ is table ∙ told table long;
}

-- ---- the bounds

near_asked : (n : ℕ) → T (offered n) → (offer_of n).asked ≡ true → T (near_earthed n)
near_asked = five (λ n. (offer_of n).asked ≡ true → T (near_earthed n)) few few few (λ e. tt) (λ e. tt)
  where
    few : {P : Type 0} → false ≡ true → P
    few e = absurd (subst (λ b. T (not b)) e tt)

module _ (n : ℕ) (off : offered n ≡ true) (o : Offer) (is : o ≡ offer_of n) (x : Word) (limit : ℕ) where
  pub flips_few : length (run (by_excess (code n)) limit x).flips ≤ broken (code n) x
  flips_few = omega (arith, run_fall (chooses n (is_offered n off)) limit x)

  pub flips_half : o.asked ≡ true → length (run (by_excess (code n)) limit x).flips ≤ broken (code n) x / 2
  flips_half asked =
      let near = near_asked n (is_offered n off) (sym (ap (λ z. z.asked) is) ∙ asked) in
      let h = run_half (chooses n (is_offered n off)) (λ k l. (2, near_degree n near k l)) limit x in
      omega (arith, h)

-- ---- the start

module _ (n : ℕ) (off : offered n ≡ true) (word : List ℕ) (o : Offer) (is : o ≡ offer_of n) (long : length word ≡ o.word) (limit room : ℕ)
  where
    -- a table that is too short
    pub short_lists : leb (length (run_of n word limit).flips) room ≡ false → (table : List Entry) → length table ≡ room
        → refused_list table 10 ≡ list_answer n word limit table
    short_lists short table fits =
        sym (list_taken n word limit table (is_offered n off) (word_long n is off long)
        ∙ list_short (code n) (word_of n word) (run_of n word limit) table (omega (
          arith,
          fits,
          leb-false (length (run_of n word limit
              ).flips) room short,
        )))

    -- a run that is begun
    pub starts : (h y z : List ℕ) (sh : Shape) → Measured n word h (wbit y) (wbit z) sh → sh ≡ o.shape
        → (first low : ℕ) → first ≡ broken (code n) (wbit y) → low ≡ lowest (code n) (wbit y)
        → leb (length (run_of n word limit).flips) room ≡ true → (l : Listing) → l.offer ≡ o → l.limit ≡ limit → l.answer.first ≡ first
        → l.answer.lowest ≡ low → l.record.left ≡ first → Stands n word limit room l 0 h y z
    starts h y z sh m shape first low f lo some l offers lim at_first at_low left = record {
      measures = record {
        offers = off;
        is = offers ∙ is;
        long = long ∙ sym (ap (λ w. w.word) offers);
        under = lim;
        first = at_first ∙ f ∙ ap (broken (code n)) m.bits;
        lowest = at_low ∙ lo ∙ ap (lowest (code n)) m.bits;
      };
      lends = subst (Lends n h) same m.lends;
      left = left ∙ f;
      going = subst (λ w. Going (by_excess (code n)) (code n) w limit (word_of n word) 0 (wbit y) (wbit z)) same
          (subst (λ x. Going (by_excess (code n)) (code n) sh limit x 0 (wbit y) (wbit z)) m.bits
          (going_start (by_excess (code n)) (code n) sh limit (wbit y) (wbit z) m.held));
      list = ap (λ x. entries (code n) x (run (by_excess (code n)) limit x).flips) (sym m.bits)
          ∙ ap (λ k. entries (code n) (wbit y) (run (by_excess (code n)) k (wbit y)).flips) none;
      serves = leb-true _ _ some;
    }
      where
        same : sh ≡ l.offer.shape
        same = shape ∙ sym (ap (λ w. w.shape) offers)

        none : limit ≡ limit - 0
        none = omega arith

-- ---- the run's end

-- the numbers of an answer, one by one
abbrev pub numbers : ℕ → ℕ → ℕ → ℕ → ℕ → ℕ → ℕ → ℤ → List Entry → ListedAnswer
numbers a b c d f g h i table = record {
  number = a;
  flips = b;
  first = c;
  last = d;
  unlike = f;
  lowest = g;
  bit = h;
  excess = i;
  table = table;
}

module _ (n : ℕ) (word : List ℕ) (limit : ℕ) (l : Listing) (flips : ℕ) (y : Word) (number why : ℕ) (excess : ℤ)
    (e : Ends n word limit l flips y number why excess) where
  some : (code n).unsent < bits (code n)
  some = (published n (is_offered n e.measures.offers)).some

  pub end_met : number ≡ 0 → broken (code n) y ≡ 0
  end_met z =
      ap (broken (code n)) e.word_is ∙ run_met (by_excess_lem (code n) some) limit (word_of n word) (sym e.number_is ∙ z)

  pub end_unsent : (k : ℕ) → k < (code n).unsent → y k ≡ false
  end_unsent k h =
      ap (λ z. z k) e.word_is
      ∙ unsent_stay (code n) (by_excess_lem (code n) some) limit (word_of n word) (lifted_unsent (code n) (bit word)) k h

  pub end_at : EndsAt (code n) (bit word) y flips
  end_at = ends_at (code n) some (bit word) y limit flips e.word_is e.flips_are

  pub ended_is : (excess' : ℤ) → excess' ≡ excess → (judge unlike : ℕ) → judge ≡ judged (code n) (run_of n word limit) → unlike ≡ differing
      (code n) (word_of n word) y
      → (table : List Entry)
      → numbers judge flips l.answer.first l.record.left unlike l.answer.lowest why excess' table ≡ ends_with n word limit table
  unfolding ran_correct
  ended_is excess' same judge unlike j u table =
      let r = run_of n word limit in
      ap (λ z. numbers judge flips l.answer.first l.record.left unlike l.answer.lowest why z table) same
      ∙ ap₂ (λ a b. numbers a b l.answer.first l.record.left unlike l.answer.lowest why excess table) j e.flips_are
      ∙ ap₂ (λ a b. numbers (judged (code n) r) (length r.flips) a b unlike l.answer.lowest why excess table) e.measures.first
      (e.left ∙ ap (broken (code n)) e.word_is)
      ∙ ap₂ (λ a b. numbers (judged (code n) r) (length r.flips) (broken (code n) (word_of n word)) (broken (code n) r.word) a b why
      excess table) (u ∙ ap (differing (code n) (word_of n word)) e.word_is) e.measures.lowest
      ∙ ap (λ f. numbers (judged (code n) r) (length r.flips) (broken (code n) (word_of n word)) (broken (code n) r.word)
      (differing (code n) (word_of n word) r.word) (lowest (code n) (word_of n word)) f.bit f.excess table) (sym e.why)

-- ---- a pass

module _ (n : ℕ) (word : List ℕ) (limit room : ℕ) (l : Listing) (flips : ℕ) (h y z : List ℕ) (st : Stands n word limit room l flips h y z)
  where
    abbrev r : Run
    r = run_of n word limit

    unlike_five : (number : ℕ) → (number ≡ 5 → ⊥) → number ≡ r.number → reason (code n) r ≡ record { bit = 0; excess = pos 0 }
    unlike_five number d e = reason_none (code n) r (λ u. d (e ∙ u))

    ends_as : (how : Ending) (why : ℕ) (ex : ℤ)
        → RunsTo (by_excess (code n)) (code n) l.offer.shape limit (word_of n word) (record { ending = how; flips = flips }) (wbit y)
        (wbit z) → reason (code n) r ≡ record { bit = why; excess = ex } → Ends n word limit l flips (wbit y) (number_of how) why ex
    ends_as how why ex to reasoned = record {
      measures = st.measures;
      number_is = to.number;
      flips_are = to.flips;
      word_is = to.word;
      left = st.left;
      why = reasoned;
    }

    pub ends_by_quiet : by_excess (code n) (wbit y) ≡ quiet → Ends n word limit l flips (wbit y) 0 0 (pos 0)
    ends_by_quiet e =
        let to = ends_quiet (by_excess (code n)) (code n) _ limit (word_of n word) flips (wbit y) (wbit z) st.going e in
        ends_as Quiet 0 (pos 0) to (unlike_five 0 (λ u. omega arith) to.number)

    pub ends_by_stuck : (k : ℕ) (ex ex' : ℤ) → ex' ≡ ex → by_excess (code n) (wbit y) ≡ stuck k ex
        → Ends n word limit l flips (wbit y) 5 k ex'
    ends_by_stuck k ex ex' same e =
        let to = ends_stuck (by_excess (code n)) (code n) _ limit (word_of n word) flips (wbit y) (wbit z) st.going k ex e in
        ends_as Stuck k ex' to (reason_stuck (code n) r (sym to.number) k ex (ap (by_excess (code n)) (sym to.word) ∙ e)
        ∙ ap (λ u. record { bit = k; excess = u }) (sym same))

    pub ends_by_limit : (k : ℕ) (ex : ℤ) → by_excess (code n) (wbit y) ≡ flip k ex → limit ≤ flips
        → Ends n word limit l flips (wbit y) 6 0 (pos 0)
    ends_by_limit k ex e q =
        let to = ends_limit (by_excess (code n)) (code n) _ limit (word_of n word) flips (wbit y) (wbit z) st.going k ex e q in
        ends_as Limit 0 (pos 0) to (unlike_five 6 (λ u. omega arith) to.number)

    -- the answer of a list that has ended
    pub ended_lists : (number why : ℕ) (ex : ℤ) → Ends n word limit l flips (wbit y) number why ex → (l' : Listing) (h' y' z' : List ℕ)
        → l'.goes ≡ false → l'.place ≡ flips → ((table : List Entry) → listed_as l'.answer table ≡ ends_with n word limit table)
        → Lists n word limit room l' h' y' z'
    ended_lists number why ex e l' h' y' z' off at is = record {
      goes = λ on. never (sym on ∙ off);
      record_is = λ on. never (sym on ∙ off);
      ends = λ _ table long.
          is (so_far (list_of n word limit) l'.place table)
          ∙ ap (ends_with n word limit) (entered table)
          ∙ sym (list_fits (code n) (word_of n word) r table (omega (arith, long, st.serves)))
          ∙ sym (list_taken n word limit table (is_offered n m.offers) (word_long n m.is m.offers m.long));
    }
      where
        m : Measures n word limit l
        m = st.measures

        never : {P : Type 0} → true ≡ false → P
        never u = absurd (subst T u tt)

        entered : (table : List Entry) → so_far (list_of n word limit) l'.place table ≡ entered_in table (list_of n word limit)
        entered table =
            let u : l'.place ≡ length (list_of n word limit)
            = at ∙ e.flips_are ∙ sym (list_long (code n) (word_of n word) r.flips) in
            ap₂ (λ a k. a ++ drop k table) (whole l'.place (list_of n word limit) u) u

    -- one flip more
    pub went_lists : (k : ℕ) (ex ex' : ℤ) → ex' ≡ ex → by_excess (code n) (wbit y) ≡ flip k ex → flips < limit → (left : ℕ) (y' z' : List ℕ)
        → wbit y' ≡ flipped (wbit y) k → wbit z' ≡ laid (code n) l.offer.shape (flipped (wbit y) k)
        → left ≡ broken (code n) (flipped (wbit y) k) → (l' : Listing) → l'.goes ≡ true → l'.place ≡ flips
        → l'.record ≡ record { bit = k; excess = ex'; left = left } → l'.answer ≡ l.answer → l'.limit ≡ l.limit
        → l'.offer ≡ l.offer → Lists n word limit room l' h y' z'
    unfolding entries
    went_lists k ex ex' same e q left y' z' here held lf l' on at rec ans lim off = record {
      goes = λ _. record {
        measures = record {
          offers = m.offers;
          is = off ∙ m.is;
          long = m.long ∙ sym (ap (λ u. u.word) off);
          under = lim ∙ m.under;
          first = ap (λ u. u.first) ans ∙ m.first;
          lowest = ap (λ u. u.lowest) ans ∙ m.lowest;
        };
        lends = subst (λ u. Lends n h u.shape) (sym off) st.lends;
        left = ap (λ u. u.left) rec ∙ lf ∙ ap (broken (code n)) (sym here);
        going = subst (λ u. Going (by_excess (code n)) (code n) u.shape limit (word_of n word) (l'.place + 1) (wbit y') (wbit z')) (sym
            off)
            (subst (λ u. Going (by_excess (code n)) (code n) l.offer.shape limit (word_of n word) (u + 1) (wbit y') (wbit z')) (sym at)
            (goes_on (by_excess (code n)) (code n) _ limit (word_of n word) flips (wbit y) (wbit z) st.going k ex e q (wbit y') (wbit z')
            here held));
        list = subst (λ u. list_of n word limit ≡ take (u + 1) (list_of n word limit) ++ rest (u + 1)) (sym at)
            (split (as_entry l'.record)).1;
        serves = st.serves;
      };
      record_is = λ _ d. ap (λ u. get_or (list_of n word limit) u d) at ∙ (split d).0
          ∙ ap₂ (λ v u. record { bit = k; excess = v; left = u }) (sym same) (sym lf) ∙ sym (ap as_entry rec);
      ends = λ off. absurd (subst T (sym on ∙ off) tt);
    }
      where
        m : Measures n word limit l
        m = st.measures

        rest : ℕ → List Entry
        rest i = entries (code n) (wbit y') (run (by_excess (code n)) (limit - i) (wbit y')).flips

        first : Entry
        first = record { bit = k; excess = ex; left = broken (code n) (flipped (wbit y) k) }

        less : limit - flips ≡ suc (limit - (flips + 1))
        less = omega arith

        goes_so : list_of n word limit ≡ take flips (list_of n word limit) ++ (first ∷ rest (flips + 1))
        goes_so =
            st.list
            ∙ ap (λ u. take flips (list_of n word limit) ++ entries (code n) (wbit y) u.flips)
            (ap (λ i. run (by_excess (code n)) i (wbit y)) less ∙ run_flip (by_excess (code n)) (limit - (flips + 1)) (wbit y) k ex e)
            ∙ ap (λ w. take flips (list_of n word limit) ++
            (first ∷ entries (code n) w (run (by_excess (code n)) (limit - (flips + 1)) w).flips)) (sym here)

        split : (d : Entry) → (get_or (list_of n word limit) flips d ≡ first)
            × (list_of n word limit ≡ take (flips + 1) (list_of n word limit) ++ rest (flips + 1))
        split d =
            let w = goes_with flips (list_of n word limit) (rest (flips + 1)) first d goes_so in
            let u : suc flips ≡ flips + 1 = omega arith in
            (w.0, w.1 ∙ ap (λ i. take i (list_of n word limit) ++ rest (flips + 1)) u)
