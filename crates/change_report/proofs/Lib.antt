mod OneRouter
