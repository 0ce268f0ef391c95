-- Rules 7.10, 10.13 and 15.3 by a lent record, of either version since a drawing only reads it: 16, 17 and 18 stand in the place of 4.
use Rattle.std.specs.Prelude.{ℕ, List, length}
use Rattle.reply.specs.declared.Reply.{Reply}
use Rattle.surface.specs.declared.lines.LineNumber.{LineNumber}
use Rattle.record_layout.specs.Record.{read_record}
use Rattle.line_replies.specs.Replies.{drawn_if}
use Rattle.layers.specs.Layers.{layered_line, layered_reply}

-- 1; 2, 3; 16, 17, 18; then as for the state in the record
abbrev pub lent_layers_reply : LineNumber → ℕ → ℕ → ℕ → List ℕ → List ℕ → List ℕ → Reply
lent_layers_reply line ula tile dots b layer2 sprites = layered_reply line ula tile dots (read_record b).reply (read_record b).state layer2 sprites

-- the lent line afterwards: the dots of the state in the record with the lent lines, or as it was
unfoldable pub lent_layered : LineNumber → List ℕ → List ℕ → List ℕ → List ℕ → List ℕ → List ℕ → List ℕ
lent_layered line ula tile dots b layer2 sprites =
    drawn_if (lent_layers_reply line (length ula) (length tile) (length dots) b layer2 sprites) (layered_line (read_record b).state ula tile layer2 sprites line) dots
