mod PileLaws
mod CountLaws
