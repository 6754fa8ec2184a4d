-- forms: its parts.
mod Making
