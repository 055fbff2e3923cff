use Rattle.std.proofs.Common.{◌≡◌, ◌≤◌, ◌<◌, ◌+◌, ◌*◌, ◌++◌, ◌∷◌, [], List, ℕ, length, vec_len, vec_capacity, arith, ap, ◌∙◌, append_assoc, length-append, codes, decimal}
use Rattle.ct_text.specs.Words.{spelling as word_spelling}
use Rattle.ct_session.proofs.Spellings.{spelled_len, done, took}
use Rattle.ct_session.proofs.reply.write_found.Goals as goal

pub returns-clause-text : goal.returns-clause-text
returns-clause-text c = λ short.
    let image = c.args.image.now in
    let text = codes "OK " ++ decimal c.args.num ++ codes " " in
    let begun = c.write_valued.new.out in
    let then = c.spell.new.into in
    let spelled : then.items ≡ begun.items ++ word_spelling image =
    done c.spell.result (vec_capacity begun < vec_len begun + 3 * length image) (then.items ≡ begun.items ++ word_spelling image) c.spell.ensures.ok c.spell.ensures.full
    (λ small. omega (arith, small, short, c.write_valued.ensures.len, c.write_valued.ensures.capacity, c.requires)) in
    let room : vec_len then + 1 ≤ vec_capacity then =
    omega (arith, then.ok.0, begun.ok.0, ap length spelled, length-append begun.items (word_spelling image), spelled_len image, short, c.write_valued.ensures.len, c.write_valued.ensures.capacity, c.spell.ensures.capacity, c.requires) in
    let last : c.extend_from_slice.new.self.items ≡ then.items ++ 10 ∷ [] =
    took c.extend_from_slice.result c.extend_from_slice.new.self.items (then.items ++ 10 ∷ []) then.items (vec_capacity then < vec_len then + 1) c.extend_from_slice.ensures.items c.extend_from_slice.ensures.full
    (λ small. omega (arith, small, room)) in
    last ∙ ap (λ (t : List ℕ). t ++ 10 ∷ []) (spelled ∙ ap (λ (t : List ℕ). t ++ word_spelling image) c.write_valued.ensures.text ∙ append_assoc c.args.out.now.items text (word_spelling image))
    ∙ append_assoc c.args.out.now.items (text ++ word_spelling image) (10 ∷ [])
