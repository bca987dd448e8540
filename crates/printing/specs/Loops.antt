-- The digits of a number where they stand, and what each turn of the loop over a line's numbers keeps.
use Rattle.std.specs.Prelude.{◌≡◌, List, [], ◌∷◌, ◌++◌, ℕ, suc, ◌+◌, ◌≤◌, ◌<◌, length, get_or, take, drop}
use Rattle.std.proofs.Common.{sym, ap, ◌∙◌, append_assoc, append-nil, add-one, le-leb, take-suc, take-append-drop, drop-cons}
use Rattle.std.proofs.lemmas.Bool.{lt-leb}
use Rattle.text.specs.Model.{tab}
use Rattle.text.specs.Writing.{Wrote}
use Rattle.printing.specs.Model.{decimal, reached, tabbed}

-- A text that stands up to a place, all else being as it was, is written.
pub wrote_to : {t : List ℕ} {at r end : ℕ} {entry exit : List ℕ} → r ≡ at → end ≡ at + length t → take r exit ≡ take r entry
    → drop r exit ≡ t ++ drop end entry → Wrote t at entry exit end
wrote_to {r = r} {exit = exit} e p before behind = record {
  place = p;
  memory = sym (take-append-drop r exit) ∙ rw (behind, before, e);
}

-- A power that is reached counts one.
pub reached_one : (n i : ℕ) (ps : List ℕ) → i < length ps → get_or ps i 0 ≤ n → reached n (drop i ps) ≡ suc (reached n (drop (i + 1) ps))
unfolding reached
reached_one n i ps h l = rw (add-one i, drop-cons ps i 0 h, le-leb (get_or ps i 0) n l)

-- One that is not reached ends the count.
pub reached_end : (n i : ℕ) (ps : List ℕ) → i < length ps → n < get_or ps i 0 → reached n (drop i ps) ≡ 0
unfolding reached
reached_end n i ps h l = rw (drop-cons ps i 0 h, lt-leb (get_or ps i 0) n l)

tabbed_last : (ns : List ℕ) (n : ℕ) → tabbed (ns ++ n ∷ []) ≡ tabbed ns ++ (tab ∷ decimal n)
unfolding tabbed
tabbed_last [] n = append-nil (tab ∷ decimal n)
tabbed_last (x ∷ ns) n = ap (λ (l : List ℕ). (tab ∷ decimal x) ++ l) (tabbed_last ns n) ∙ sym (append_assoc (tab ∷ decimal x) (tabbed ns) (tab ∷ decimal n))

-- One number more behind its tab.
pub tabbed_next : (ns : List ℕ) (i : ℕ) → i < length ns → tabbed (take (i + 1) ns) ≡ tabbed (take i ns) ++ (tab ∷ decimal (get_or ns i 0))
tabbed_next ns i h = ap tabbed (rw (add-one i, take-suc ns i 0 h)) ∙ tabbed_last (take i ns) (get_or ns i 0)
