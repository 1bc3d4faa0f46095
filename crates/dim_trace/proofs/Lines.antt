-- Lines of words.
use Rattle.std.proofs.Common.{◌≡◌, ℕ, ◌+◌, ◌≤◌, List, [], ◌∷◌, ◌++◌, length, map, take, Some, Result, OnOk, sym, ap, ◌∙◌, append-nil, append_assoc}
use Rattle.std.specs.Prelude.{codes}
use Rattle.std.specs.Fmt.{decimal}
use Rattle.std.specs.List.{slice_get, join_with_byte}
use Rattle.std.proofs.lemmas.List.{take_more, take_all, map-append}
use Rattle.std.proofs.lemmas.List.Concat.{flat_map-append}
use Rattle.std.proofs.lemmas.Option.{slice_get_within, get_or_from_slice_get}
use Rattle.std.proofs.lemmas.Result.{on_ok_weaker}
use Rattle.dim_asm.specs.Code.{Code}
use Rattle.dim_rag.specs.declared.entry.Entry.{Entry}
use Rattle.dim_trace.specs.Text.{spaced, head_lines, text_of, line_of, words_of_entry, trace_text}

take_one_more : {X : Type 0} (xs : List X) (i : ℕ) (x : X) → slice_get xs i ≡ Some x → take (i + 1) xs ≡ take i xs ++ x ∷ []
take_one_more xs i x h = take_more xs i x (slice_get_within xs i x h) ∙ ap (λ y. take i xs ++ y ∷ []) (get_or_from_slice_get xs i x x h)

-- one more number behind the first ones
pub one_more_number : (numbers : List ℕ) (i n : ℕ) → slice_get numbers i ≡ Some n
    → spaced (map decimal (take (i + 1) numbers)) ≡ spaced (map decimal (take i numbers)) ++ 32 ∷ decimal n
one_more_number numbers i n h = rw (take_one_more numbers i n h) (simp (map-append, flat_map-append, append-nil))

-- the first word of a line, and the others with a space before each
join-spaced : (w : List ℕ) (ws : List (List ℕ)) → join_with_byte 32 (w ∷ ws) ≡ w ++ spaced ws
join-spaced w [] = sym (append-nil w)
join-spaced w (v ∷ ws) = ap (λ x. w ++ 32 ∷ x) (join-spaced v ws)

join-more : (w : List ℕ) (ws vs : List (List ℕ)) → join_with_byte 32 (w ∷ ws) ++ spaced vs ≡ join_with_byte 32 (w ∷ (ws ++ vs))
join-more w ws vs =
    ap (λ x. x ++ spaced vs) (join-spaced w ws)
    ∙ append_assoc w (spaced ws) (spaced vs)
    ∙ ap (λ x. w ++ x) (sym (flat_map-append (λ word. 32 ∷ word) ws vs))
    ∙ sym (join-spaced w (ws ++ vs))

-- more words behind those of a line
pub line-more : (old mid new w : List ℕ) (ws vs : List (List ℕ)) → mid ≡ old ++ join_with_byte 32 (w ∷ ws) → new ≡ mid ++ spaced vs
    → new ≡ old ++ join_with_byte 32 (w ∷ (ws ++ vs))
line-more old mid new w ws vs first e = e ∙ ap (λ x. x ++ spaced vs) first ∙ append_assoc old _ _ ∙ ap (λ x. old ++ x) (join-more w ws vs)

pub line_more : {E : Type 0} (r : Result (Unit {0}) E) (old mid new w : List ℕ) (ws vs : List (List ℕ)) → mid ≡ old ++ join_with_byte 32 (w ∷ ws)
    → OnOk r (new ≡ mid ++ spaced vs) → OnOk r (new ≡ old ++ join_with_byte 32 (w ∷ (ws ++ vs)))
line_more r old mid new w ws vs first h = on_ok_weaker r (line-more old mid new w ws vs first) h

-- the text by its parts
whole-text : (p : Code) (names : List (List ℕ)) (fuel depth : ℕ) (entries : List Entry)
    → (text_of (head_lines fuel depth) ++ text_of (map (words_of_entry p names) entries)) ++ (codes "end " ++ (decimal (length entries) ++ codes "\n")) ≡ trace_text p names fuel depth entries
unfolding trace_text
whole-text p names fuel depth entries =
    let head = head_lines fuel depth in
    let body = map (words_of_entry p names) entries in
    let last = (codes "end" ∷ decimal (length entries) ∷ []) ∷ [] in
    append_assoc (text_of head) (text_of body) _
    ∙ ap (λ t. text_of head ++ (text_of body ++ (codes "end " ++ t))) (sym (append-nil (decimal (length entries) ++ codes "\n")))
    ∙ ap (λ t. text_of head ++ t) (sym (flat_map-append line_of body last))
    ∙ sym (flat_map-append line_of head (body ++ last))

-- the end line behind the lines of all entries
pub ended_text : (p : Code) (names : List (List ℕ)) (fuel depth : ℕ) (entries : List Entry) (i n : ℕ) (body new : List ℕ) → length entries ≤ i → n ≡ length entries
    → body ≡ text_of (head_lines fuel depth) ++ text_of (map (words_of_entry p names) (take i entries)) → new ≡ body ++ (codes "end " ++ (decimal n ++ codes "\n"))
    → new ≡ trace_text p names fuel depth entries
ended_text p names fuel depth entries i n body new past count is e =
    let lines = ap (λ es. text_of (head_lines fuel depth) ++ text_of (map (words_of_entry p names) es)) (take_all i entries past) in
    e ∙ ap (λ k. body ++ (codes "end " ++ (decimal k ++ codes "\n"))) count
    ∙ ap (λ t. t ++ (codes "end " ++ (decimal (length entries) ++ codes "\n"))) (is ∙ lines)
    ∙ whole-text p names fuel depth entries

-- the line of one more entry behind those of the first ones
pub one_more_entry : (p : Code) (names : List (List ℕ)) (head : List ℕ) (entries : List Entry) (i : ℕ) (e : Entry) (body new : List ℕ) → slice_get entries i ≡ Some e
    → body ≡ head ++ text_of (map (words_of_entry p names) (take i entries)) → new ≡ body ++ line_of (words_of_entry p names e)
    → new ≡ head ++ text_of (map (words_of_entry p names) (take (i + 1) entries))
one_more_entry p names head entries i e body new at is more =
    let words = words_of_entry p names in
    let lines = text_of (map words (take i entries)) in
    more ∙ ap (λ x. x ++ line_of (words e)) is ∙ append_assoc head lines (line_of (words e))
    ∙ ap (λ x. head ++ x) (sym (
    ap (λ es. text_of (map words es)) (take_one_more entries i e at)
    ∙ ap text_of (map-append words (take i entries) (e ∷ []))
    ∙ flat_map-append line_of (map words (take i entries)) (words e ∷ [])
    ∙ ap (λ x. lines ++ x) (append-nil (line_of (words e)))))
